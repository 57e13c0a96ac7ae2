use Rattle.lists.specs.Held.{SameLists, SameShowing, lists_of, shown}
use Rattle.replay.proofs.Reaching.{Reached}
use Rattle.replay.proofs.playing.play.Given as goal

abbrev pub invariant-loop-i : goal.invariant-loop-i
invariant-loop-i g l = Reached g.K.Kind.meaning g.R.ResultKind.results l.calls (lists_of l.initial.lists) (shown l.initial.at) l.initial.answers l.i l.sheet (lists_of l.lists) (shown l.at) l.answers
    × SameLists l.initial.lists l.lists
    × SameShowing l.initial.at l.at
