use Rattle.text.specs.Cells.{entry}
use Rattle.lines.proofs.cursor.Fields.placed.Given as goal

abbrev pub ghost-next_as : goal.ghost-next_as
ghost-next_as a = entry
