use Rattle.std.proofs.Common.{◌≡◌, ◌≤◌, length, take}
use Rattle.lists.specs.Held.{seen}
use Rattle.sets.specs.Marks.{Marked}
use Rattle.tables.specs.Storage.{column_of}
use Rattle.marks.proofs.marking.mark.Given as goal

abbrev pub invariant-loop-i : goal.invariant-loop-i
invariant-loop-i g l = record {
  so_far : Marked g.K.Kind.meaning (take l.i (seen l.view).rows) (λ k. column_of l.view.entries.now l.i k) l.quantity l.value l.mark;
  few : l.mark.eithers ≤ l.i;
  long : length l.mark.either ≡ 16;
}
