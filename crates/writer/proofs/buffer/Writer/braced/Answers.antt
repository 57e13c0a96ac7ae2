use Rattle.writer.proofs.Wrote.{wrote-more}
use Rattle.writer.proofs.buffer.Writer.braced.Goals as goal

pub returns : goal.returns
returns g c =
    wrote-more c.byte.ensures (wrote-more c.names.ensures c.byte-2.ensures)
