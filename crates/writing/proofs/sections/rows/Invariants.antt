use Rattle.std.proofs.Common.{map, take}
use Rattle.text.specs.Texts.{say_row}
use Rattle.writer.specs.Writing.{Wrote}
use Rattle.writing.proofs.LinesOn.{texts}
use Rattle.writing.proofs.sections.rows.Given as goal

abbrev pub invariant-loop-row : goal.invariant-loop-row
invariant-loop-row g l = Wrote l.initial.writer (texts (map say_row (take l.row-index l.row-items))) l.writer
