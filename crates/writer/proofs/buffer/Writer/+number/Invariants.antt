use Rattle.writer.proofs.buffer.Writer.+number.Given as goal

abbrev pub decreases-number : goal.decreases-number
decreases-number g l = l.n
