-- An encounter made of starts differs from the one given in needed values alone. Assumes nothing.
use Rattle.std.proofs.Common.{◌≡◌, true, Bool, List, [], ◌∷◌, Some, sym, refl, ap, ◌∙◌, unwrap_or}
use Rattle.std.specs.List.{AllByRecursion}
use Rattle.std.proofs.ByRecursion.{All-weaker}
use Rattle.std.proofs.lemmas.Bool.{cond_both}
use Rattle.kinds.specs.Meaning.{Meaning}
use Rattle.tables.specs.Contents.{Contents, Encounter, Place, places, put_at, whole}
use Rattle.tables.specs.Starts.{starts_at, choices, from_starts, reset}
use Rattle.tables.proofs.Lists.{all_both, all-given, all-each}
use Rattle.tables.proofs.Placing.{Apart, Separate, separate, put-put}
use Rattle.tables.proofs.Keeping.{choices-whole}
use Rattle.sets.specs.Walks.{first_of}

-- what holds of d and of each element holds of the first that f holds of, or else d
pub first-has : {X : Type 0} (P : X → Type 0) (f : X → Bool) (d : X) (xs : List X) → P d → AllByRecursion P xs → P (unwrap_or (first_of f xs) d)
first-has P f d [] h a = h
first-has P f d (x ∷ xs) h a = cond_both (f x) (Some x) (first_of f xs) (λ o. P (unwrap_or o d)) (λ _. a.0) (λ _. first-has P f d xs h a.1)

module _ {V C R : Type 0} (m : Meaning V C) (c : Contents V C R) where
  reset-put : (p : Place V) (ps : List (Place V)) → AllByRecursion (Apart p) ps → (v : V) (e : Encounter V) → put_at p v (reset m c ps e) ≡ reset m c ps (put_at p v e)
  reset-put p [] a v e = refl
  reset-put p (t ∷ ps) a v e = reset-put p ps a.1 v (put_at t t.quantity.least e) ∙ ap (reset m c ps) (a.0.1 v t.quantity.least e)

  choices-alter : (ps : List (Place V)) → Separate ps → (e : Encounter V) → AllByRecursion (λ x. reset m c ps x ≡ reset m c ps e) (choices m c ps e)
  choices-alter [] d e = (refl, tt)
  choices-alter (p ∷ ps) d e =
      let w = p.quantity.least in
      let Same : Encounter V → Type 0 = λ x. reset m c (p ∷ ps) x ≡ reset m c (p ∷ ps) e in
      all-each Same (λ v. choices m c ps (put_at p v e)) (starts_at m c p)
      (all-given (λ v. AllByRecursion Same (choices m c ps (put_at p v e)))
      (λ v. All-weaker (λ x. reset m c ps x ≡ reset m c ps (put_at p v e)) Same
      (λ x h. sym (reset-put p ps d.0 w x) ∙ ap (put_at p w) h ∙ reset-put p ps d.0 w (put_at p v e) ∙ ap (reset m c ps) (put-put p.side p.number w v e))
      (choices m c ps (put_at p v e)) (choices-alter ps d.1 (put_at p v e)))
      (starts_at m c p))

  -- x is whole, and is as e but for needed values
  abbrev pub Differs : Encounter V → Encounter V → Type 0
  Differs e x = (reset m c (places c) x ≡ reset m c (places c) e) × (whole x ≡ true)

  pub starts_alter : (e : Encounter V) → whole e ≡ true → AllByRecursion (Differs e) (from_starts m c e)
  starts_alter e w =
      all_both (λ x. reset m c (places c) x ≡ reset m c (places c) e) (λ x. whole x ≡ true) (Differs e) (λ x h k. (h, k)) (from_starts m c e)
      (choices-alter (places c) (separate 0 c.quantities) e) (choices-whole m c (places c) e w)
