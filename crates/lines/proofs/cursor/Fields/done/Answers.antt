use Rattle.std.proofs.Common.{◌+◌, Err, sym, refl, ap, ◌∙◌, arith}
use Rattle.text.specs.Forms.{none}
use Rattle.text.proofs.Parts.{fields-more}
use Rattle.lines.proofs.cursor.Fields.done.Goals as goal

pub returns-else-self : goal.returns-else-self
returns-else-self c =
    ap Err c.byte.ensures
    ∙ sym (ap (none tt (c.args.self.now.at + 1)) (fields-more c.args.self.now.line.now c.args.self.now.at _ (omega arith) refl))
