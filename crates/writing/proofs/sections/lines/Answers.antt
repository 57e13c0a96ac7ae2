use Rattle.lists.specs.Held.{seen}
use Rattle.writing.proofs.LinesOn.{sections-on}
use Rattle.writing.proofs.sections.lines.Goals as goal

pub returns : goal.returns
returns g c = sections-on (seen c.args.view.now) c.quantities.ensures c.rows.ensures c.columns.ensures c.nevers.ensures c.default.ensures
