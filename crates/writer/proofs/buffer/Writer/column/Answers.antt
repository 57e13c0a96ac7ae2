use Rattle.writer.proofs.Wrote.{wrote-more}
use Rattle.writer.proofs.buffer.Writer.column.Goals as goal

pub returns : goal.returns
returns g c =
    wrote-more (wrote-more c.spelled.ensures
    (wrote-more (wrote-more c.byte.ensures c.figure.ensures) c.entries.ensures)) c.byte-2.ensures
