use Rattle.std.proofs.Common.{◌≡◌, ℕ, ◌&&◌, nat_lt}
use Rattle.std.specs.Int.{bit_at}
use Rattle.sets.specs.Sets.{bit, in_use}
use Rattle.tables.specs.Outcomes.{met}
use Rattle.tables.specs.Storage.{column_of}
use Rattle.lists.specs.Held.{encounter_of, seen}
use Rattle.judging.proofs.met.meets.Given as goal

abbrev pub invariant-loop-k : goal.invariant-loop-k
invariant-loop-k g l = (j : ℕ) → bit_at l.set j ≡ bit (nat_lt j l.k && (in_use l.view.counts j && met g.K.Kind.meaning (seen l.view).rows (column_of l.view.entries.now l.view.counts.rows j) (encounter_of l.e)))
