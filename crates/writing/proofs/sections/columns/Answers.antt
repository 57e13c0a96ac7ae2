use Rattle.std.proofs.Common.{get_or, pos, ap}
use Rattle.text.specs.Texts.{line_text, say_column}
use Rattle.writer.proofs.Wrote.{wrote_as}
use Rattle.writing.proofs.LinesOn.{column-on}
use Rattle.writing.proofs.sections.columns.Goals as goal

pub loop-j-preserved : goal.loop-j-preserved
loop-j-preserved g c =
    let v = c.args.view.now in
    let xs = c.results_in_use-result-items.result.now in
    let j = c.loop-j.j in
    column-on v.entries.now v.counts.rows j xs _ c.loop-j-test.true c.loop-j.invariant
    (wrote_as (ap (λ es. line_text (say_column (get_or xs j (record { value = pos 0 })) es)) c.gathered-entries.ensures) c.column.ensures)
