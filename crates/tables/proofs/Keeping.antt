-- What a choice of starts, and a reset to the least values, leave as it was. Assumes nothing.
use Rattle.std.proofs.Common.{◌≡◌, ℕ, true, List, [], ◌∷◌, refl, ◌∙◌, inl, inr}
use Rattle.std.specs.List.{AllByRecursion}
use Rattle.std.proofs.ByRecursion.{All-weaker}
use Rattle.kinds.specs.Meaning.{Meaning}
use Rattle.items.specs.declared.Side.{Side}
use Rattle.tables.specs.Words.{Any}
use Rattle.tables.specs.Contents.{Contents, Encounter, Place, value_at, value_of, put_at, whole}
use Rattle.tables.specs.Starts.{starts_at, choices, reset}
use Rattle.tables.proofs.Lists.{all-given, all-each}
use Rattle.tables.proofs.Placing.{Apart, put_other, put_whole}

-- values put at the places leave that of side t at j
abbrev pub Untouched : {V : Type 0} → Side → ℕ → List (Place V) → Type 0
Untouched {V} t j ps = AllByRecursion (λ p. (v : V) (e : Encounter V) → value_at (put_at p v e) t j ≡ value_at e t j) ps

pub untouched : {V : Type 0} (t : Side) (j : ℕ) (ps : List (Place V)) → (Any (λ p. (p.side ≡ t) × (p.number ≡ j)) ps → ⊥) → Untouched t j ps
untouched t j [] h = tt
untouched t j (p ∷ ps) h = ((λ v e. put_other p.side t p.number j v e (λ q. h (inl q))), untouched t j ps (λ a. h (inr a)))

pub apart-untouched : {V : Type 0} (p : Place V) (ps : List (Place V)) → AllByRecursion (Apart p) ps → Untouched p.side p.number ps
apart-untouched {V} p ps a = All-weaker (Apart p) (λ t. (v : V) (e : Encounter V) → value_of (put_at t v e) p ≡ value_of e p) (λ t h. h.0) ps a

module _ {V C R : Type 0} (m : Meaning V C) (c : Contents V C R) where
  pub choices-keep : (t : Side) (j : ℕ) (ps : List (Place V)) → Untouched t j ps → (e : Encounter V) → AllByRecursion (λ s. value_at s t j ≡ value_at e t j) (choices m c ps e)
  choices-keep t j [] a e = (refl, tt)
  choices-keep t j (p ∷ ps) a e =
      all-each (λ s. value_at s t j ≡ value_at e t j) (λ v. choices m c ps (put_at p v e)) (starts_at m c p)
      (all-given (λ v. AllByRecursion (λ s. value_at s t j ≡ value_at e t j) (choices m c ps (put_at p v e)))
      (λ v. All-weaker (λ s. value_at s t j ≡ value_at (put_at p v e) t j) (λ s. value_at s t j ≡ value_at e t j) (λ s k. k ∙ a.0 v e) (choices m c ps (put_at p v e)) (choices-keep t j ps a.1 (put_at p v e)))
      (starts_at m c p))

  pub choices-whole : (ps : List (Place V)) (e : Encounter V) → whole e ≡ true → AllByRecursion (λ s. whole s ≡ true) (choices m c ps e)
  choices-whole [] e w = (w, tt)
  choices-whole (p ∷ ps) e w =
      all-each (λ s. whole s ≡ true) (λ v. choices m c ps (put_at p v e)) (starts_at m c p)
      (all-given (λ v. AllByRecursion (λ s. whole s ≡ true) (choices m c ps (put_at p v e))) (λ v. choices-whole ps (put_at p v e) (put_whole p.side p.number v e w)) (starts_at m c p))

  pub reset-keep : (t : Side) (j : ℕ) (ps : List (Place V)) → Untouched t j ps → (e : Encounter V) → value_at (reset m c ps e) t j ≡ value_at e t j
  reset-keep t j [] a e = refl
  reset-keep t j (p ∷ ps) a e = reset-keep t j ps a.1 (put_at p p.quantity.least e) ∙ a.0 p.quantity.least e

  pub reset-whole : (ps : List (Place V)) (e : Encounter V) → whole e ≡ true → whole (reset m c ps e) ≡ true
  reset-whole [] e w = w
  reset-whole (p ∷ ps) e w = reset-whole ps (put_at p p.quantity.least e) (put_whole p.side p.number p.quantity.least e w)
