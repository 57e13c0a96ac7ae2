use Rattle.std.proofs.Common.{sym, ap, ◌∙◌}
use Rattle.joined.specs.declared.Either.TheVariants.{Right}
use Rattle.text.specs.Texts.{cell_text}
use Rattle.writer.proofs.Wrote.{wrote_as}
use Rattle.writer.proofs.buffer.Writer.cell.Goals as goal

pub returns-in-Right-Right : goal.returns-in-Right-Right
returns-in-Right-Right g c =
    let a = c.in-Right-Right in
    let e = rw a.is at a.field-0-is in
    wrote_as (sym (ap cell_text a.is ∙ ap (λ x. cell_text (Right x)) e)) c.window.ensures
