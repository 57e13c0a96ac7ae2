use Rattle.text.proofs.Digits.{SoFar}
use Rattle.lexer.proofs.numbers.digits.Given as goal

abbrev pub invariant-loop-b : goal.invariant-loop-b
invariant-loop-b l = SoFar l.field l.n l.b-index
