use Rattle.std.proofs.Common.{take}
use Rattle.writer.specs.Writing.{Wrote}
use Rattle.writer.proofs.buffer.Writer.word.Given as goal

abbrev pub invariant-loop-b : goal.invariant-loop-b
invariant-loop-b g l = Wrote l.initial.self (take l.b-index l.word) l.self
