use Rattle.std.proofs.Common.{Err, sym, ap, ◌∙◌}
use Rattle.std.proofs.lemmas.Result.{err_from_is_err_and}
use Rattle.lists.specs.Held.{encounter_of, seen}
use Rattle.lookups.specs.Steps.{raised}
use Rattle.lookups.proofs.Asking.{told-long}
use Rattle.lookups.proofs.answer.answer.Goals as goal

pub returns-in_err-result : goal.returns-in_err-result
returns-in_err-result g c =
    let p = err_from_is_err_and c.from_residual.result c.from_residual.ensures.1 in
    p.1 ∙ ap Err p.2 ∙ ap raised c.in_err-result.ensures
    ∙ sym (told-long g.K.Kind.meaning g.R.ResultKind.results (seen c.args.view.now) (encounter_of c.args.e.now) (sym c.is_whole.ensures ∙ c.if-not-is_whole.false))

pub returns : goal.returns
returns g c =
    ap raised c.in_ok-result.ensures
    ∙ sym (told-long g.K.Kind.meaning g.R.ResultKind.results (seen c.args.view.now) (encounter_of c.args.e.now) (sym c.is_whole.ensures ∙ c.if-not-is_whole.false))
