use Rattle.writer.proofs.Wrote.{wrote-more}
use Rattle.writer.proofs.buffer.Writer.time.Goals as goal

pub returns : goal.returns
returns g c = wrote-more c.two.ensures (wrote-more c.byte.ensures c.two-2.ensures)
