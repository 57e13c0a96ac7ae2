use Rattle.tables.proofs.Issuing.{issued-rightly}
use Rattle.tables.proofs.issue_answers_rightly.Goals as goal

pub returns : goal.returns
returns g c d ok lent = issued-rightly g.K.Kind.meaning g.met.K.Kind.lawful g.R.ResultKind.results g.met.R.ResultKind.equal d ok lent
