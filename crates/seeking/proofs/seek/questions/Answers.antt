use Rattle.std.proofs.Common.{refl, ap, ◌∙◌, rules}
use Rattle.tables.specs.Outcomes.{outcome}
use Rattle.lists.specs.Held.{seen, shown}
use Rattle.judging.specs.Judged.{open_by, gap_by, clash_by, asymmetry_by, fault_by}
use Rattle.judging.specs.Sought.{open_in, gap_in, clash_in, asymmetry_in, fault_in}
use Rattle.seeking.specs.Seeks.{clash_fault}
use Rattle.seeking.proofs.Questions.{barred-found, gap-found, clash-shown, asymmetry-found, faultless-found, none_found}
use Rattle.seeking.proofs.Telling.{open-told, gap-told, clash-told, asymmetry-told, fault-told}
use Rattle.seeking.proofs.seek.questions.Goals as goal

pub returns-then-not-seek-clause-found : goal.returns-then-not-seek-clause-found
returns-then-not-seek-clause-found g c = λ right ok w n.
    let m = g.K.Kind.meaning in
    let r = g.R.ResultKind.results in
    let v = c.args.view.now in
    let s = seen v in
    let j = c.new-judge.result in
    let lent = shown c.args.at.now in
    let first = c.seek.ensures.after right n (open_by r j) (open_in m r s) (λ x b _ _ h. search rules) (open-told m r g.met.R.ResultKind.equal j v c.new-judge.ensures.shows c.new-judge.ensures.unlike) ok lent w w refl in
    barred-found m r s lent first c.if-not-seek.true

pub returns-then-not-seek-2-clause-found : goal.returns-then-not-seek-2-clause-found
returns-then-not-seek-2-clause-found g c = λ right ok w n.
    let m = g.K.Kind.meaning in
    let r = g.R.ResultKind.results in
    let v = c.args.view.now in
    let s = seen v in
    let j = c.new-judge.result in
    let lent = shown c.args.at.now in
    let first = c.seek.ensures.after right n (open_by r j) (open_in m r s) (λ x b _ _ h. search rules) (open-told m r g.met.R.ResultKind.equal j v c.new-judge.ensures.shows c.new-judge.ensures.unlike) ok lent w w refl in
    let fault = c.seek-2.ensures.after right n (fault_by r j) (fault_in m r s) (λ x b _ _ h. search rules) (fault-told m r g.met.R.ResultKind.equal j v c.new-judge.ensures.shows c.new-judge.ensures.unlike) ok lent w first.lengths first.others in
    faultless-found m r s lent c.args.count n first c.if-not-seek.false fault c.if-not-seek-2.true

pub returns-then-seek-clause-found : goal.returns-then-seek-clause-found
returns-then-seek-clause-found g c = λ right ok w n.
    let m = g.K.Kind.meaning in
    let r = g.R.ResultKind.results in
    let v = c.args.view.now in
    let s = seen v in
    let j = c.new-judge.result in
    let lent = shown c.args.at.now in
    let first = c.seek.ensures.after right n (open_by r j) (open_in m r s) (λ x b _ _ h. search rules) (open-told m r g.met.R.ResultKind.equal j v c.new-judge.ensures.shows c.new-judge.ensures.unlike) ok lent w w refl in
    let fault = c.seek-2.ensures.after right n (fault_by r j) (fault_in m r s) (λ x b _ _ h. search rules) (fault-told m r g.met.R.ResultKind.equal j v c.new-judge.ensures.shows c.new-judge.ensures.unlike) ok lent w first.lengths first.others in
    let second = c.seek-3.ensures.after right n (gap_by r j) (gap_in m r s) (λ x b _ _ h. search rules) (gap-told m r g.met.R.ResultKind.equal j v c.new-judge.ensures.shows c.new-judge.ensures.unlike) ok lent w fault.lengths fault.others in
    gap-found m r s lent first c.if-not-seek.false second c.if-seek.true

pub returns-then-seek-2-clause-found : goal.returns-then-seek-2-clause-found
returns-then-seek-2-clause-found g c = λ right ok w n.
    let m = g.K.Kind.meaning in
    let r = g.R.ResultKind.results in
    let v = c.args.view.now in
    let s = seen v in
    let j = c.new-judge.result in
    let lent = shown c.args.at.now in
    let first = c.seek.ensures.after right n (open_by r j) (open_in m r s) (λ x b _ _ h. search rules) (open-told m r g.met.R.ResultKind.equal j v c.new-judge.ensures.shows c.new-judge.ensures.unlike) ok lent w w refl in
    let fault = c.seek-2.ensures.after right n (fault_by r j) (fault_in m r s) (λ x b _ _ h. search rules) (fault-told m r g.met.R.ResultKind.equal j v c.new-judge.ensures.shows c.new-judge.ensures.unlike) ok lent w first.lengths first.others in
    let second = c.seek-3.ensures.after right n (gap_by r j) (gap_in m r s) (λ x b _ _ h. search rules) (gap-told m r g.met.R.ResultKind.equal j v c.new-judge.ensures.shows c.new-judge.ensures.unlike) ok lent w fault.lengths fault.others in
    let third = c.seek-4.ensures.after right n (clash_by r j) (clash_in m r s) (λ x b _ _ h. search rules) (clash-told m r g.met.R.ResultKind.equal j v c.new-judge.ensures.shows c.new-judge.ensures.unlike) ok lent w second.lengths second.others in
    clash-shown m r s lent first c.if-not-seek.false second c.if-seek.false third c.if-seek-2.true (c.clash.ensures ∙ ap (λ e. clash_fault (outcome m r s e)) c.encounter.ensures)

pub returns-then-seek-3-clause-found : goal.returns-then-seek-3-clause-found
returns-then-seek-3-clause-found g c = λ right ok w n.
    let m = g.K.Kind.meaning in
    let r = g.R.ResultKind.results in
    let v = c.args.view.now in
    let s = seen v in
    let j = c.new-judge.result in
    let lent = shown c.args.at.now in
    let first = c.seek.ensures.after right n (open_by r j) (open_in m r s) (λ x b _ _ h. search rules) (open-told m r g.met.R.ResultKind.equal j v c.new-judge.ensures.shows c.new-judge.ensures.unlike) ok lent w w refl in
    let fault = c.seek-2.ensures.after right n (fault_by r j) (fault_in m r s) (λ x b _ _ h. search rules) (fault-told m r g.met.R.ResultKind.equal j v c.new-judge.ensures.shows c.new-judge.ensures.unlike) ok lent w first.lengths first.others in
    let second = c.seek-3.ensures.after right n (gap_by r j) (gap_in m r s) (λ x b _ _ h. search rules) (gap-told m r g.met.R.ResultKind.equal j v c.new-judge.ensures.shows c.new-judge.ensures.unlike) ok lent w fault.lengths fault.others in
    let third = c.seek-4.ensures.after right n (clash_by r j) (clash_in m r s) (λ x b _ _ h. search rules) (clash-told m r g.met.R.ResultKind.equal j v c.new-judge.ensures.shows c.new-judge.ensures.unlike) ok lent w second.lengths second.others in
    let fourth = c.seek-5.ensures.after right n (asymmetry_by r j) (asymmetry_in m r s) (λ x b _ _ h. search rules) (asymmetry-told m r g.met.R.ResultKind.equal j v c.new-judge.ensures.shows c.new-judge.ensures.unlike) ok lent w third.lengths third.others in
    asymmetry-found m r s lent first c.if-not-seek.false second c.if-seek.false third c.if-seek-2.false fourth c.if-seek-3.true

pub returns-clause-found : goal.returns-clause-found
returns-clause-found g c = λ right ok w n.
    let m = g.K.Kind.meaning in
    let r = g.R.ResultKind.results in
    let v = c.args.view.now in
    let s = seen v in
    let j = c.new-judge.result in
    let lent = shown c.args.at.now in
    let first = c.seek.ensures.after right n (open_by r j) (open_in m r s) (λ x b _ _ h. search rules) (open-told m r g.met.R.ResultKind.equal j v c.new-judge.ensures.shows c.new-judge.ensures.unlike) ok lent w w refl in
    let fault = c.seek-2.ensures.after right n (fault_by r j) (fault_in m r s) (λ x b _ _ h. search rules) (fault-told m r g.met.R.ResultKind.equal j v c.new-judge.ensures.shows c.new-judge.ensures.unlike) ok lent w first.lengths first.others in
    let second = c.seek-3.ensures.after right n (gap_by r j) (gap_in m r s) (λ x b _ _ h. search rules) (gap-told m r g.met.R.ResultKind.equal j v c.new-judge.ensures.shows c.new-judge.ensures.unlike) ok lent w fault.lengths fault.others in
    let third = c.seek-4.ensures.after right n (clash_by r j) (clash_in m r s) (λ x b _ _ h. search rules) (clash-told m r g.met.R.ResultKind.equal j v c.new-judge.ensures.shows c.new-judge.ensures.unlike) ok lent w second.lengths second.others in
    let fourth = c.seek-5.ensures.after right n (asymmetry_by r j) (asymmetry_in m r s) (λ x b _ _ h. search rules) (asymmetry-told m r g.met.R.ResultKind.equal j v c.new-judge.ensures.shows c.new-judge.ensures.unlike) ok lent w third.lengths third.others in
    none_found m r s lent c.args.count n first c.if-not-seek.false second c.if-seek.false third c.if-seek-2.false fourth c.if-seek-3.false
