use Rattle.std.proofs.Common.{map, take}
use Rattle.text.specs.Texts.{say_quantity}
use Rattle.writer.specs.Writing.{Wrote}
use Rattle.writing.proofs.LinesOn.{texts}
use Rattle.writing.proofs.sections.quantities.Given as goal

abbrev pub invariant-loop-quantity : goal.invariant-loop-quantity
invariant-loop-quantity g l = Wrote l.initial.writer (texts (map say_quantity (take l.quantity-index l.quantity-items))) l.writer
