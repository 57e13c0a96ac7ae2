use Rattle.writer.proofs.Wrote.{word_more}
use Rattle.writer.proofs.buffer.Writer.word.Goals as goal

pub loop-b-preserved : goal.loop-b-preserved
loop-b-preserved g c = word_more c.args.word.now c.loop-b.b-index c.loop-b-test.true c.loop-b.invariant c.byte.ensures
