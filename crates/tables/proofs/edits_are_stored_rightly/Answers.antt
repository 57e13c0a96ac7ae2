use Rattle.tables.specs.Calls.{asked}
use Rattle.tables.specs.Storage.{contents_of}
use Rattle.tables.proofs.Storing.{stored, no-refusal}
use Rattle.tables.proofs.edits_are_stored_rightly.Goals as goal

pub returns : goal.returns
returns g c k n l b s e = stored g.K.Kind.meaning g.R.ResultKind.results n l b s k (no-refusal (asked g.K.Kind.meaning g.R.ResultKind.results k (contents_of n l)) e)
