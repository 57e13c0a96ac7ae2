use Rattle.tables.proofs.Editing.{edited-rightly}
use Rattle.tables.proofs.edits_change_their_item.Goals as goal

pub returns : goal.returns
returns g c k d = edited-rightly g.K.Kind.meaning g.R.ResultKind.results d k
