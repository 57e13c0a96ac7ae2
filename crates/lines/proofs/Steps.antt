-- The next field of a line, and what is read of it. Assumes nothing.
use Rattle.std.proofs.Common.{◌≡◌, ℕ, ◌+◌, ◌-◌, ◌≤◌, List, ◌∷◌, length, take, drop, Some, None, Option, sym, refl, ap, ◌∙◌, ap₂, arith}
use Rattle.text.specs.Fields.{up_to, fields_from}
use Rattle.text.specs.Forms.{or_at}
use Rattle.std.specs.Option.{ok_or}
use Rattle.text.proofs.Parts.{fields-more}

pub field-at : (line rest : List ℕ) (at n : ℕ) → at ≤ length line → rest ≡ drop at line → n ≡ 0 + up_to 32 rest → fields_from line at ≡ take n rest ∷ fields_from line (at + (n + 1))
field-at line rest at n h e r =
    let f = fields-more line at (at + n) h (omega (arith, r, ap (up_to 32) e)) in
    let a : at + n - at ≡ n = omega arith in
    let b : at + n + 1 ≡ at + (n + 1) = omega arith in
    f ∙ ap₂ (λ m j. take m (drop at line) ∷ fields_from line j) a b ∙ ap (λ l. take n l ∷ fields_from line (at + (n + 1))) (sym e)

pub ok_or-at : {X : Type 0} (byte : ℕ) (o : Option X) → ok_or o byte ≡ or_at byte o
ok_or-at byte (Some x) = refl
ok_or-at byte None = refl
