use Rattle.std.proofs.Common.{◌≡◌, ◌∷◌, sym, refl, ap, ◌∙◌, ap₂}
use Rattle.text.specs.Forms.{first, or_at}
use Rattle.lines.specs.Left.{left, byte}
use Rattle.lines.proofs.Steps.{ok_or-at}
use Rattle.lines.proofs.cursor.Fields.next_as.Goals as goal

pub returns-clause-value : goal.returns-clause-value
returns-clause-value g c =
    let f = c.in_ok-field.field in
    let here : left c.args.self.now ≡ f.now ∷ left c.next_field.new.self = rw c.in_ok-field.ensures.ok_part at c.next_field.ensures.left in
    c.ok_or-2.ensures.value
    ∙ ok_or-at c.byte-byte.result c.read.result
    ∙ ap₂ or_at c.byte-byte.ensures (c.requires.1.1.1 f.now c.read.result (f, c.read.ensures, refl))
    ∙ sym (ap (first g.form (byte c.args.self.now)) here)
