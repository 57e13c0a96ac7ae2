use Rattle.text.specs.Numbers.{measure}
use Rattle.lines.proofs.cursor.Fields.result.Given as goal

abbrev pub ghost-next_as : goal.ghost-next_as
ghost-next_as a = measure
