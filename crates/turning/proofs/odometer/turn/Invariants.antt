use Rattle.std.proofs.Common.{◌≡◌, false, length}
use Rattle.tables.specs.Starts.{turned}
use Rattle.lists.specs.Held.{SameShowing, seen, shown}
use Rattle.turning.proofs.Turns.{Before, on_from}
use Rattle.turning.proofs.odometer.turn.Given as goal

abbrev pub invariant-loop-i : goal.invariant-loop-i
invariant-loop-i g l =
    let m = g.K.Kind.meaning in
    let s = seen l.view in
    let left = l.i-iterator.iter.iter.rest.now in
    (l.i-iterator.iter.count ≡ 0) × Before m s s.quantities left × ((false, shown l.at) ≡ turned m s (on_from m s s.quantities (length left)) (shown l.initial.at)) × SameShowing l.initial.at l.at
