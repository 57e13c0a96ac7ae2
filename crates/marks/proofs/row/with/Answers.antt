use Rattle.std.proofs.Common.{arith, ◌∙◌}
use Rattle.marks.proofs.Bits.{with-too, byte-bit}
use Rattle.marks.proofs.row.with.Goals as goal

pub returns : goal.returns
returns c = with-too c.args.set c.args.column c.from.result c.args.too (omega (arith, c.requires)) (c.from.ensures ∙ byte-bit c.args.too)
