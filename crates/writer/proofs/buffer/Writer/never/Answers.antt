use Rattle.writer.proofs.Wrote.{wrote-more}
use Rattle.writer.proofs.buffer.Writer.never.Goals as goal

pub returns : goal.returns
returns g c =
    wrote-more (wrote-more c.spelled.ensures c.entries.ensures) c.byte.ensures
