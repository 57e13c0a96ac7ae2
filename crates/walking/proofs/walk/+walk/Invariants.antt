use Rattle.std.proofs.Common.{length}
use Rattle.lists.specs.Held.{SameShowing, shown}
use Rattle.walking.specs.Sought.{Answers}
use Rattle.walking.specs.Ways.{pairs_left}
use Rattle.walking.proofs.Walking.{On}
use Rattle.walking.proofs.walk.+walk.Given as goal

abbrev pub decreases-walk : goal.decreases-walk
decreases-walk g l = length l.spans.now

abbrev pub invariant-loop-x : goal.invariant-loop-x
invariant-loop-x g l =
    (goal.iterator-loop-x g).can_next l.x-iterator
    × (goal.iterator-loop-x g).is_finite l.x-iterator
    × ((sought : _) → Answers g.F.Fn l.is_sought sought → On sought l.marks l.span l.rest l.met (shown l.initial.at) (pairs_left l.x-iterator) l.last (shown l.at))
    × SameShowing l.initial.at l.at
