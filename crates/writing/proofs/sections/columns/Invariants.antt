use Rattle.std.proofs.Common.{map, take}
use Rattle.tables.specs.Storage.{columns_from}
use Rattle.text.specs.Texts.{say_column}
use Rattle.writer.specs.Writing.{Wrote}
use Rattle.writing.proofs.LinesOn.{texts}
use Rattle.writing.proofs.sections.columns.Given as goal

abbrev pub invariant-loop-j : goal.invariant-loop-j
invariant-loop-j g l =
    Wrote l.initial.writer (texts (map (λ k. say_column k.result k.entries) (columns_from l.view.entries.now l.view.counts.rows 0 (take l.j l.result-items)))) l.writer
