use Rattle.writer.proofs.Wrote.{wrote_none, wrote-more}
use Rattle.writer.proofs.buffer.Writer.default.Goals as goal

pub returns : goal.returns
returns g c =
    wrote-more (wrote-more c.spelled.ensures
    (wrote-more (wrote-more c.byte.ensures c.figure.ensures) (wrote_none _))) c.byte-2.ensures
