use Rattle.writer.proofs.Wrote.{wrote_none, wrote-more}
use Rattle.writer.proofs.buffer.Writer.row.Goals as goal

pub returns : goal.returns
returns g c =
    wrote-more (wrote-more c.spelled.ensures
    (wrote-more (wrote-more c.byte.ensures c.number.ensures)
    (wrote-more (wrote-more c.byte-2.ensures c.spelled-2.ensures) (wrote_none _)))) c.byte-3.ensures
