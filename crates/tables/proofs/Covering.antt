-- Inside a lawful range, lawful cells answer at each value as they do at some start. Assumes nothing.
use Rattle.std.proofs.Common.{◌≡◌, ℕ, zero, suc, ◌-◌, ◌<◌, ◌≤◌, true, leb, ◌⊎◌, List, [], ◌∷◌, Some, None, Option, sym, refl, ap, ◌∙◌, subst, inl, inr, arith}
use Rattle.std.specs.List.{AllByRecursion}
use Rattle.std.proofs.lemmas.Bool.{cond_both, leb-true, leb-false, cases_lt}
use Rattle.kinds.specs.Meaning.{Meaning, Lawful, Before}
use Rattle.kinds.proofs.Earliest.{before-both, earlier-keeps}
use Rattle.tables.specs.Words.{Any}
use Rattle.tables.specs.Starts.{not_after, earliest, onward, next, starts_from, starts_on}
use Rattle.tables.proofs.Lists.{none-some, some_same}

-- a stop up to z, or none before z
abbrev Next : {V : Type 0} → (V → ℕ) → V → Option V → Option V → Type 0
Next {V} rank z o u = ((s : V) × ((u ≡ Some s) × ((o ≡ Some s) × (rank s ≤ rank z)))) ⊎ ((u ≡ None) × ((w : V) → rank w ≤ rank z → Before rank w o))

next-cases : {V : Type 0} (rank : V → ℕ) (z : V) (o : Option V) → Next rank z o (not_after rank z o)
next-cases rank z None = inr (refl, λ w k. tt)
next-cases rank z (Some s) =
    cond_both (leb (rank s) (rank z)) (Some s) None (Next rank z (Some s))
    (λ e. inl (s, (refl, (refl, leb-true (rank s) (rank z) e))))
    (λ e. inr (refl, λ w k. omega (arith, leb-false (rank s) (rank z) e)))

module _ {V C : Type 0} (m : Meaning V C) (law : Lawful m) where
  earliest-later : (xs : List C) (v s : V) → earliest m xs v ≡ Some s → m.rank v < m.rank s
  earliest-later [] v s e = none-some s e
  earliest-later (x ∷ xs) v s e = earlier-keeps m.rank (λ u. m.rank v < m.rank u) (m.stop x v) (earliest m xs v) (λ u k. (law.later x v u k).0) (λ u k. earliest-later xs v u k) s e

  pub next-later : (xs : List C) (z v s : V) → next m xs z v ≡ Some s → (m.rank v < m.rank s) × (m.rank s ≤ m.rank z)
  next-later xs z v s e = elim (next-cases m.rank z (earliest m xs v)) [
    | inl h ↦ let q : h.0 ≡ s = some_same h.0 s (sym h.1.0 ∙ e) in subst (λ u. (m.rank v < m.rank u) × (m.rank u ≤ m.rank z)) q (earliest-later xs v h.0 h.1.1.0, h.1.1.1)
    | inr h ↦ none-some s (sym h.0 ∙ e)
  ]

  on_same : (f g : V → List V) (o : Option V) → ((s : V) → o ≡ Some s → f s ≡ g s) → onward f o ≡ onward g o
  on_same f g None h = refl
  on_same f g (Some s) h = h s refl

  -- the bound does not matter
  any-bound : (xs : List C) (z : V) (n k : ℕ) (v : V) → m.rank z - m.rank v < n → m.rank z - m.rank v < k → starts_from m n xs z v ≡ starts_from m k xs z v
  any-bound xs z zero k v p q = absurd (omega arith)
  any-bound xs z (suc n) zero v p q = absurd (omega arith)
  any-bound xs z (suc n) (suc k) v p q = ap (λ vs. v ∷ vs) (on_same (starts_from m n xs z) (starts_from m k xs z) (next m xs z v) (λ s e. let l = next-later xs z v s e in any-bound xs z n k s (omega arith) (omega arith)))

  pub starts-on : (xs : List C) (z v : V) → starts_on m xs z v ≡ v ∷ onward (starts_on m xs z) (next m xs z v)
  starts-on xs z v = ap (λ vs. v ∷ vs) (on_same (starts_from m (m.rank z - m.rank v) xs z) (starts_on m xs z) (next m xs z v) (λ s e. let l = next-later xs z v s e in any-bound xs z (m.rank z - m.rank v) (suc (m.rank z - m.rank s)) s (omega arith) (omega arith)))

  module _ (a z : V) where
    abbrev pub In : V → Type 0
    In s = (m.rank a ≤ m.rank s) × (m.rank s ≤ m.rank z)

    -- the starts lie in range
    pub starts-within : (xs : List C) (n : ℕ) (v : V) → m.rank a ≤ m.rank v → m.rank v ≤ m.rank z → AllByRecursion In (starts_from m n xs z v)
    starts-within xs zero v p q = tt
    starts-within xs (suc n) v p q = (
      (p, q),
      elim (next-cases m.rank z (earliest m xs v)) [
        | inl h ↦ subst (λ o. AllByRecursion In (onward (starts_from m n xs z) o)) (sym h.1.0) (starts-within xs n h.0 (omega (arith, earliest-later xs v h.0 h.1.1.0)) h.1.1.1)
        | inr h ↦ subst (λ o. AllByRecursion In (onward (starts_from m n xs z) o)) (sym h.0) tt
      ],
    )

    module _ (r : m.range a z ≡ true) (w : V) (k : m.rank w ≤ m.rank z) where
      abbrev pub Same : List C → V → Type 0
      Same xs v = AllByRecursion (λ x. m.holds x v ≡ m.holds x w) xs

      steady : (xs : List C) → AllByRecursion (λ x. m.fits x a z ≡ true) xs → (v : V) → m.rank a ≤ m.rank v → m.rank v ≤ m.rank w → Before m.rank w (earliest m xs v) → Same xs v
      steady [] f v p q h = tt
      steady (x ∷ xs) f v p q h =
          let b = before-both m.rank (m.stop x v) (earliest m xs v) w h in
          (law.steady x a z v w r f.0 p q k b.0, steady xs f.1 v p q b.1)

      pub covered : (xs : List C) → AllByRecursion (λ x. m.fits x a z ≡ true) xs → (n : ℕ) (v : V) → m.rank z - m.rank v < n → m.rank a ≤ m.rank v → m.rank v ≤ m.rank w → Any (Same xs) (starts_from m n xs z v)
      covered xs f zero v b p q = absurd (omega arith)
      covered xs f (suc n) v b p q =
          elim (next-cases m.rank z (earliest m xs v)) [
            | inl h ↦ elim (cases_lt (m.rank w) (m.rank h.0)) [
              | inl lt ↦ inl (steady xs f v p q (subst (Before m.rank w) (sym h.1.1.0) lt))
              | inr ge ↦ inr (subst (λ o. Any (Same xs) (onward (starts_from m n xs z) o)) (sym h.1.0) (covered xs f n h.0 (omega (arith, earliest-later xs v h.0 h.1.1.0)) (omega (arith, earliest-later xs v h.0 h.1.1.0)) ge))
            ]
            | inr h ↦ inl (steady xs f v p q (h.1 w k))
          ]
