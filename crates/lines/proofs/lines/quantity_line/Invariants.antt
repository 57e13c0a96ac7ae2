use Rattle.text.specs.Words.{kind, value}
use Rattle.lines.proofs.lines.quantity_line.Given as goal

abbrev pub ghost-next_as : goal.ghost-next_as
ghost-next_as a = kind

abbrev pub ghost-next_as-2 : goal.ghost-next_as-2
ghost-next_as-2 a = value a.read.0.now

abbrev pub ghost-next_as-3 : goal.ghost-next_as-3
ghost-next_as-3 a = value a.read.0.now
