use Rattle.std.proofs.Common.{◌≡◌, true, false, ◌∷◌, pos, nat_abs, decimal, ap, ◌∙◌, subst, w32, to_z, of_z}
use lib.Signed.{lt_z}
use Rattle.std.proofs.lemmas.Int.{to_z-of_z}
use Rattle.writer.proofs.Wrote.{wrote-more, wrote-from, wrote_as, signed_below, signed-above}
use Rattle.writer.proofs.buffer.Writer.measure.Goals as goal
use Rattle.writer.proofs.buffer.Writer.measure.Goals.{then-z-lt0, else-z-lt0}

pub returns : goal.returns
returns g c =
    let z = c.args.z in
    let e : to_z w32 (of_z w32 z) ≡ z = to_z-of_z w32 z c.ranges.z in
    let n = c.unsigned_abs.ensures.value ∙ ap nat_abs e in
    elim c.if-z-lt0.branch [
      | then-z-lt0 w ↦
          wrote_as (ap (λ m. 45 ∷ decimal m) n ∙ signed_below z (subst (λ y. lt_z y (pos 0) ≡ true) e w.if-z-lt0.true))
          (wrote-more w.byte.ensures (wrote-from w.self-is c.number.ensures))
      | else-z-lt0 w ↦
          wrote_as (ap decimal n ∙ signed-above z (subst (λ y. lt_z y (pos 0) ≡ false) e w.if-z-lt0.false))
          (wrote-from w.self-is c.number.ensures)
    ]
