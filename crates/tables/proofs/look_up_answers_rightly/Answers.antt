use Rattle.tables.proofs.Looking.{looked-up-rightly}
use Rattle.tables.proofs.look_up_answers_rightly.Goals as goal

pub returns : goal.returns
returns g c d e = looked-up-rightly g.K.Kind.meaning g.R.ResultKind.results d e
