use Rattle.std.proofs.Common.{refl}
use Rattle.house.specs.House.{house}
use Rattle.results.specs.Figures.{figures}
use Rattle.tables.proofs.Testing.{accepts}
use Rattle.examples.specs.Writing.{lent}
use Rattle.examples.specs.Sheets.{vertical_sheet}
use Rattle.examples.proofs.vertical_is_faultless.Goals as goal

pub returns : goal.returns
returns c = (c.issue_answers_rightly.ensures vertical_sheet ((accepts house figures vertical_sheet).0 refl) lent).says.2
