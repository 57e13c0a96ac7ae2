use Rattle.tables.proofs.Margining.{margins-mean}
use Rattle.tables.proofs.margins_mean_what_they_say.Goals as goal

pub returns : goal.returns
returns c = margins-mean
