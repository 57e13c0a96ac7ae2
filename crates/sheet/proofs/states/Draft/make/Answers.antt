use Rattle.std.proofs.Common.{Err, ap, ◌∙◌}
use Rattle.std.proofs.lemmas.Result.{err_from_is_err_and}
use Rattle.tables.specs.Answers.{edit_answer}
use Rattle.tables.specs.Storage.{counts_after}
use Rattle.lists.specs.Held.{lists_of}
use Rattle.edits.specs.Meant.{edit_of}
use Rattle.edits.proofs.Permitted.{given-ok, given-err}
use Rattle.sheet.proofs.InRuns.{made-rightly}
use Rattle.sheet.proofs.states.Draft.make.Goals as goal

pub returns-in_err-self : goal.returns-in_err-self
returns-in_err-self g c =
    let n = c.args.self.now.counts in
    let k = edit_of c.args.edit in
    let few = c.args.self.now.few in
    let h = c.in_err-self.ensures in
    let p = err_from_is_err_and c.from_residual.result c.from_residual.ensures.1 in
    let a = p.1 ∙ ap Err p.2 ∙ given-err (edit_answer g.K.Kind.meaning g.R.ResultKind.results n (lists_of c.args.lists.now) k) _ (counts_after k n) (h.answer few) in
    record {
      made = made-rightly g.K.Kind.meaning g.met.K.Kind.lawful g.R.ResultKind.results g.met.R.ResultKind.equal n (lists_of c.args.lists.now) k _ _ _ a (h.left few);
      lent = h.lent;
    }

pub returns : goal.returns
returns g c =
    let n = c.args.self.now.counts in
    let k = edit_of c.args.edit in
    let few = c.args.self.now.few in
    let h = c.in_ok-self.ensures in
    let a = given-ok (edit_answer g.K.Kind.meaning g.R.ResultKind.results n (lists_of c.args.lists.now) k) c.in_ok-self.field-0 (counts_after k n) (h.answer few) in
    record {
      made = made-rightly g.K.Kind.meaning g.met.K.Kind.lawful g.R.ResultKind.results g.met.R.ResultKind.equal n (lists_of c.args.lists.now) k _ _ _ a (h.left few);
      lent = h.lent;
    }
