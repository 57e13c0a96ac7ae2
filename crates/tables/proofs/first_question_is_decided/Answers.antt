use Rattle.tables.proofs.Testing.{accepts, in_order_lem}
use Rattle.tables.proofs.Reaching.{makeable}
use Rattle.tables.proofs.first_question_is_decided.Goals as goal

pub returns : goal.returns
returns g c =
    let m = g.K.Kind.meaning in
    let r = g.R.ResultKind.results in
    record { contents = accepts m r; lists = in_order_lem m r; makeable = makeable m r }
