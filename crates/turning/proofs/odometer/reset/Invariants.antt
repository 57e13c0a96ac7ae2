use Rattle.std.proofs.Common.{◌≡◌, drop}
use Rattle.tables.specs.Contents.{places, places_from}
use Rattle.tables.specs.Starts.{reset}
use Rattle.lists.specs.Held.{SameShowing, seen, shown}
use Rattle.turning.proofs.odometer.reset.Given as goal

abbrev pub invariant-loop-i : goal.invariant-loop-i
invariant-loop-i g l =
    let m = g.K.Kind.meaning in
    let s = seen l.view in
    (reset m s (places_from l.i (drop l.i s.quantities)) (shown l.at) ≡ reset m s (places s) (shown l.initial.at)) × SameShowing l.initial.at l.at
