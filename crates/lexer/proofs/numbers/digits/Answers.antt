use Rattle.std.proofs.Common.{get_or, arith}
use Rattle.text.proofs.Digits.{digit-is, small-below, all}
use Rattle.lexer.proofs.numbers.digits.Goals as goal

pub overflow_mul-n : goal.overflow_mul-n
overflow_mul-n c = omega (arith, small-below _ _ 6 c.loop-b.invariant.0 (omega arith))

pub overflow_add-n : goal.overflow_add-n
overflow_add-n c = omega (arith, small-below _ _ 6 c.loop-b.invariant.0 (omega arith), (digit-is (get_or c.args.field.now c.loop-b.b-index 0) _ c.in_ok-n.ensures).2)

pub returns : goal.returns
returns c = record { value = all _ _ _ c.loop-b.invariant (omega arith); small = omega (arith, small-below _ _ 7 c.loop-b.invariant.0 (omega arith)) }
