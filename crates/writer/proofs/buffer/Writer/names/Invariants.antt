use Rattle.writer.proofs.Wrote.{Named, names_below}
use Rattle.writer.proofs.buffer.Writer.names.Given as goal

abbrev pub invariant-loop-n : goal.invariant-loop-n
invariant-loop-n g l = Named l.initial.self (names_below l.set l.n) l.some l.self
