use Rattle.lists.specs.Held.{lists_of, shown, viewed}
use Rattle.examining.proofs.Examined.{examined, rightly}
use Rattle.examining.proofs.examine.Goals as goal

pub returns-in_err-view-clause-rightly : goal.returns-in_err-view-clause-rightly
returns-in_err-view-clause-rightly g c = rightly g.K.Kind.meaning g.R.ResultKind.results c.args.counts (lists_of c.args.lists.now) (shown c.args.at.now) g.met.K.Kind.lawful g.met.R.ResultKind.equal

pub returns-clause-answer : goal.returns-clause-answer
returns-clause-answer g c = λ b.
    let h = c.in_ok-view.ensures.answer b in
    (examined g.K.Kind.meaning g.R.ResultKind.results c.args.counts (lists_of c.args.lists.now) (shown c.args.at.now) c.in_ok-view.view.counts (viewed c.in_ok-view.view) c.find_fault.result (shown c.find_fault.new.at) h.0 h.1 h.2 c.find_fault.ensures.found).0

pub returns-clause-left : goal.returns-clause-left
returns-clause-left g c = λ b.
    let h = c.in_ok-view.ensures.answer b in
    (examined g.K.Kind.meaning g.R.ResultKind.results c.args.counts (lists_of c.args.lists.now) (shown c.args.at.now) c.in_ok-view.view.counts (viewed c.in_ok-view.view) c.find_fault.result (shown c.find_fault.new.at) h.0 h.1 h.2 c.find_fault.ensures.found).1

pub returns-clause-rightly : goal.returns-clause-rightly
returns-clause-rightly g c = rightly g.K.Kind.meaning g.R.ResultKind.results c.args.counts (lists_of c.args.lists.now) (shown c.args.at.now) g.met.K.Kind.lawful g.met.R.ResultKind.equal
