use Rattle.text.specs.Texts.{say_quantity}
use Rattle.writing.proofs.LinesOn.{item_on}
use Rattle.writing.proofs.sections.quantities.Goals as goal

pub loop-quantity-preserved : goal.loop-quantity-preserved
loop-quantity-preserved g c = item_on say_quantity _ c.loop-quantity.quantity-index _ c.loop-quantity-test.true c.loop-quantity.invariant c.quantity.ensures
