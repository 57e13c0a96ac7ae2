use Rattle.writer.proofs.Wrote.{wrote-more}
use Rattle.writer.proofs.buffer.Writer.window.Goals as goal

pub returns : goal.returns
returns g c =
    wrote-more c.time.ensures (wrote-more c.byte.ensures c.time-2.ensures)
