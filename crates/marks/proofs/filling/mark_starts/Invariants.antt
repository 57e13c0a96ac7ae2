use Rattle.lists.specs.Held.{seen}
use Rattle.tables.specs.Storage.{column_of}
use Rattle.marks.proofs.Spanning.{MarkedUpTo}
use Rattle.marks.proofs.filling.mark_starts.Given as goal

abbrev pub invariant-loop-place : goal.invariant-loop-place
invariant-loop-place g l = MarkedUpTo g.K.Kind.meaning (seen l.view) (λ k. column_of l.view.entries.now l.view.counts.rows k) l.i l.fn.q l.initial.marks l.marks l.from l.place l.at
