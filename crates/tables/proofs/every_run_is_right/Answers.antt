use Rattle.tables.proofs.Running.{every-run}
use Rattle.tables.proofs.every_run_is_right.Goals as goal

pub returns : goal.returns
returns g c calls = every-run g.K.Kind.meaning g.R.ResultKind.results g.met.K.Kind.lawful g.met.R.ResultKind.equal calls
