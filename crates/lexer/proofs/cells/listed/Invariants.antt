use Rattle.std.proofs.Common.{length}
use Rattle.lexer.proofs.Splits.{Listed}
use Rattle.lexer.proofs.cells.listed.Given as goal

abbrev pub invariant-loop-part : goal.invariant-loop-part
invariant-loop-part l = Listed l.bytes l.bits l.from (length l.yielded)
