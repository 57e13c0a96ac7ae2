use Rattle.tables.proofs.Starting.{starts-go-on}
use Rattle.tables.proofs.starts_are_the_stops.Goals as goal

pub returns : goal.returns
returns g c = starts-go-on g.K.Kind.meaning g.met.K.Kind.lawful
