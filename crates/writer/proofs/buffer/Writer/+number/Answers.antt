use Rattle.std.proofs.Common.{arith}
use Rattle.writer.proofs.Wrote.{number_more, number-one}
use Rattle.writer.proofs.buffer.Writer.+number.Goals as goal
use Rattle.writer.proofs.buffer.Writer.+number.Goals.{then-n-ge10, else-n-ge10}

pub returns : goal.returns
returns g t c =
    elim c.if-n-ge10.branch [
      | then-n-ge10 w ↦ number_more c.args.n w.if-n-ge10.true (omega arith) w.number.ensures w.self-is c.digit.ensures
      | else-n-ge10 w ↦ number-one c.args.n (omega (arith, w.if-n-ge10.false)) w.self-is c.digit.ensures
    ]
