use Rattle.text.specs.Numbers.{number}
use Rattle.text.specs.Words.{mode}
use Rattle.lines.proofs.lines.row_line.Given as goal

abbrev pub ghost-next_as : goal.ghost-next_as
ghost-next_as a = number

abbrev pub ghost-next_as-2 : goal.ghost-next_as-2
ghost-next_as-2 a = mode
