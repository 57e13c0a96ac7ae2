use Rattle.std.proofs.Common.{◌≡◌, ℕ, ◌<◌, not, length, slice_index, slice_index_or}
use Rattle.sets.specs.Sets.{bit}
use Rattle.std.specs.Int.{bit_at}
use Rattle.judging.proofs.unlike.unlike_table.Given as goal

abbrev pub invariant-loop-j : goal.invariant-loop-j
invariant-loop-j g l = (length l.table ≡ 16) × ((j k : ℕ) (d : _) → j < l.j → k < length l.results → bit_at (slice_index l.table j) k ≡ bit (not (g.R.ResultKind.results.same (slice_index_or l.results j d) (slice_index_or l.results k d))))
