use Rattle.std.proofs.Common.{◌+◌, ◌-◌, ◌*◌, map, sym, ap, ◌∙◌}
use Rattle.std.specs.List.{range_with_len}
use Rattle.tables.specs.Storage.{wiped}
use Rattle.lists.proofs.Left.{count-here}
use Rattle.edits.proofs.writes.clear.Goals as goal

pub loop-k-preserved : goal.loop-k-preserved
loop-k-preserved g c =
    ap (λ es. wiped es (map (λ i. c.args.step * i + c.args.first) (range_with_len (c.loop-k.k + 1) (c.args.count - (c.loop-k.k + 1))))) c.put.ensures
    ∙ sym (ap (wiped c.loop-k.entries) (count-here (λ i. c.args.step * i + c.args.first) c.args.count c.loop-k.k c.loop-k-test.true)) ∙ c.loop-k.invariant
