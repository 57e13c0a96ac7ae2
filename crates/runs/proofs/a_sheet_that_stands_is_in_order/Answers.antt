use Rattle.runs.proofs.Standing.{in-order-standing}
use Rattle.runs.proofs.a_sheet_that_stands_is_in_order.Goals as goal

pub returns : goal.returns
returns g c calls s n l h = in-order-standing g.K.Kind.meaning g.met.K.Kind.lawful g.R.ResultKind.results g.met.R.ResultKind.equal calls n l s h
