use Rattle.lists.specs.Held.{seen}
use Rattle.tables.specs.Storage.{column_of}
use Rattle.marks.proofs.Spanning.{SpannedUpTo}
use Rattle.marks.proofs.filling.fill.Given as goal

abbrev pub invariant-loop-i : goal.invariant-loop-i
invariant-loop-i g l = SpannedUpTo g.K.Kind.meaning (seen l.view) (λ k. column_of l.view.entries.now l.view.counts.rows k) (seen l.view).quantities l.marks l.spans l.i l.at
