use Rattle.std.proofs.Common.{refl, arith}
use Rattle.std.proofs.lemmas.List.{length-take, length-drop}
use Rattle.text.proofs.LineSteps.{lined-more}
use Rattle.lines.proofs.reader.Reader.next_line.Goals as goal

pub returns : goal.returns
returns c = record {
  left = lined-more c.args.self.now.page.now c.args.self.now.at c.line_end-to.result c.if-self.false c.line_end-to.ensures.0;
  line = refl;
  short = simp (length-take, length-drop) (omega arith);
  at = omega arith;
  page = refl;
}
