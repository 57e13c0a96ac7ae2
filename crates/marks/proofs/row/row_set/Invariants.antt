use Rattle.std.proofs.Common.{◌+◌, ◌*◌, slice_index_or}
use Rattle.items.specs.declared.Entry.TheVariants.{Any}
use Rattle.sets.specs.Marks.{held}
use Rattle.marks.proofs.Bits.{UpTo}
use Rattle.marks.proofs.row.row_set.Given as goal

abbrev pub invariant-loop-k : goal.invariant-loop-k
invariant-loop-k g l = UpTo l.k (λ k. held g.K.Kind.meaning (slice_index_or l.view.entries.now (24 * l.row + k) Any) l.value) l.set
