use Rattle.std.proofs.Common.{rules}
use Rattle.measure.proofs.MeasureKind.next_stop.Goals as goal

pub returns : goal.returns
returns c = search rules parts 20
