use Rattle.std.proofs.Common.{◌≡◌, drop}
use Rattle.lists.specs.Held.{encounter_of, seen}
use Rattle.lookups.specs.Steps.{asked_from}
use Rattle.lookups.proofs.range.ask_all.Given as goal

abbrev pub invariant-loop-i : goal.invariant-loop-i
invariant-loop-i g l =
    let m = g.K.Kind.meaning in
    asked_from m (encounter_of l.e) l.i (drop l.i l.q-items) ≡ asked_from m (encounter_of l.e) 0 (seen l.view).quantities
