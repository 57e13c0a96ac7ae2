use Rattle.tables.proofs.Rowing.{read-rightly}
use Rattle.tables.proofs.rows_read_rightly.Goals as goal

pub returns : goal.returns
returns g c e = read-rightly g.K.Kind.meaning e
