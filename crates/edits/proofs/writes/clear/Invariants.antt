use Rattle.std.proofs.Common.{◌≡◌, ◌+◌, ◌-◌, ◌*◌, map}
use Rattle.std.specs.List.{range_with_len}
use Rattle.tables.specs.Storage.{wiped}
use Rattle.edits.proofs.writes.clear.Given as goal

abbrev pub invariant-loop-k : goal.invariant-loop-k
invariant-loop-k g l =
    wiped l.entries (map (λ i. l.step * i + l.first) (range_with_len l.k (l.count - l.k))) ≡ wiped l.initial.entries (map (λ i. l.step * i + l.first) (range_with_len 0 l.count))
