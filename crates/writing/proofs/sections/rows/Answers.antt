use Rattle.text.specs.Texts.{say_row}
use Rattle.writing.proofs.LinesOn.{item_on}
use Rattle.writing.proofs.sections.rows.Goals as goal

pub loop-row-preserved : goal.loop-row-preserved
loop-row-preserved g c = item_on say_row _ c.loop-row.row-index _ c.loop-row-test.true c.loop-row.invariant c.row.ensures
