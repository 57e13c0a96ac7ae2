use Rattle.writer.proofs.Wrote.{wrote-more}
use Rattle.writer.proofs.buffer.Writer.two.Goals as goal

pub returns : goal.returns
returns g c =
    wrote-more c.digit.ensures c.digit-2.ensures
