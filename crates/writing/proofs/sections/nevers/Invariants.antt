use Rattle.std.proofs.Common.{◌+◌, map}
use Rattle.std.specs.List.{range_with_len}
use Rattle.tables.specs.Storage.{column_of}
use Rattle.text.specs.Texts.{say_never}
use Rattle.writer.specs.Writing.{Wrote}
use Rattle.writing.proofs.LinesOn.{texts}
use Rattle.writing.proofs.sections.nevers.Given as goal

abbrev pub invariant-loop-j : goal.invariant-loop-j
invariant-loop-j g l = Wrote l.initial.writer (texts (map say_never (map (λ j. column_of l.view.entries.now l.view.counts.rows (16 + j)) (range_with_len 0 l.j)))) l.writer
