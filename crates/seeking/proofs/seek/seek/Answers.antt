use Rattle.std.proofs.Common.{subst}
use Rattle.seeking.specs.Seeks.{RightlyMarked}
use Rattle.seeking.proofs.seek.seek.Goals as goal

pub returns-in-Some-clause-after : goal.returns-in-Some-clause-after
returns-in-Some-clause-after g c = λ right n t f ans tells.
    c.seek_by_marks.ensures.after (subst (RightlyMarked g.K.Kind.meaning c.args.view.now c.args.marks.now) c.in-Some.is right) t f ans tells
