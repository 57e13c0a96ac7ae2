-- The first number that passes a test, and what does not change where none passes. Assumes nothing.
use Rattle.std.specs.Prelude.{◌≡◌, ℕ, zero, suc, ◌+◌, ◌-◌, ◌<◌, ◌≤◌, min, Bool, true, false, cond, Some, None, Option, MatchOption, refl}
use Rattle.std.proofs.Common.{sym, ap, ◌∙◌, ⊎_elim, arith}
use Rattle.std.proofs.lemmas.Bool.{cond_both, cases_eq}
use Rattle.kinds.specs.Meaning.{Before}
use Rattle.names.specs.NameSets.{first_from, differ}

module _ (test : ℕ → Bool) where
  none-here : (k n : ℕ) → ((j : ℕ) → k ≤ j → j < k + n → test j ≡ false) → None ≡ first_from test k n
  none-here k zero h = refl
  none-here k (suc n) h = none-here (k + 1) n (λ j a b. h j (omega arith) (omega arith)) ∙ ap (λ b. cond b (Some k) (first_from test (k + 1) n)) (sym (h k (omega arith) (omega arith)))

  -- one turn of a loop from k up to e
  pub first-here : (k e : ℕ) {t r : Bool} → k < e → t ≡ test k → t ≡ r → cond r (Some k) (first_from test (k + 1) (e - (k + 1))) ≡ first_from test k (e - k)
  first-here k e h p q =
      let s : e - k ≡ suc (e - (k + 1)) = omega arith in
      ap (λ b. cond b (Some k) (first_from test (k + 1) (e - (k + 1)))) (sym q ∙ p) ∙ sym (ap (first_from test k) s)

  pub first-end : (k e : ℕ) → e ≤ k → first_from test k (e - k) ≡ None
  first-end k e h = let s : e - k ≡ 0 = omega arith in ap (first_from test k) s

  first-at : (k n i : ℕ) → k ≤ i → i < k + n → test i ≡ true → ((j : ℕ) → k ≤ j → j < i → test j ≡ false) → Some i ≡ first_from test k n
  first-at k zero i a b e h = absurd (omega arith)
  first-at k (suc n) i a b e h =
      ⊎_elim
      (λ y. ap Some y ∙ ap (λ b. cond b (Some k) (first_from test (k + 1) n)) (sym e ∙ ap test y))
      (λ y. first-at (k + 1) n i (omega arith) (omega arith) e (λ j c d. h j (omega arith) d) ∙ ap (λ b. cond b (Some k) (first_from test (k + 1) n)) (sym (h k (omega arith) (omega arith))))
      (cases_eq i k)

  -- what a search from the number after a up to 31 finds
  pub first-found : (a s : ℕ) (r : Option ℕ) → s ≡ min (a + 1) 4294967295
      → MatchOption r ((j : ℕ) → s ≤ j → j < 32 → test j ≡ false) (λ i. (s ≤ i) × (i < 32) × (test i ≡ true) × ((j : ℕ) → s ≤ j → j < i → test j ≡ false))
      → r ≡ first_from test (a + 1) (31 - a)
  first-found a s None e h = none-here (a + 1) (31 - a) (λ j p q. h j (omega arith) (omega arith))
  first-found a s (Some i) e h = let low = h.0 in let high = h.1 in first-at (a + 1) (31 - a) i (omega arith) (omega arith) h.2 (λ j p q. h.3 j (omega arith) q)

  pub first_range : (k n s : ℕ) → first_from test k n ≡ Some s → (k ≤ s) × (s < k + n)
  first_range k zero s e = let z : ◌≡◌ {A = ℕ} 0 1 = cc in absurd (omega arith)
  first_range k (suc n) s e =
      cond_both (test k) (Some k) (first_from test (k + 1) n) (λ o. o ≡ Some s → (k ≤ s) × (s < k + suc n))
      (λ _ x. let y : k ≡ s = cc in (omega arith, omega arith)) (λ _ x. let r = first_range (k + 1) n s x in (omega arith, omega arith)) e

  -- before the first that passes, none does
  pub first-misses : (k n w : ℕ) → Before (λ x. x) w (first_from test k n) → (j : ℕ) → k ≤ j → j < k + n → j ≤ w → test j ≡ false
  first-misses k zero w h j a b c = absurd (omega arith)
  first-misses k (suc n) w h j a b c =
      cond_both (test k) (Some k) (first_from test (k + 1) n) (λ o. Before (λ x. x) w o → test j ≡ false)
      (λ _ x. absurd (omega arith))
      (λ e x. ⊎_elim (λ y. ap test y ∙ e) (λ y. first-misses (k + 1) n w x j (omega arith) (omega arith) c) (cases_eq j k)) h

same : (a b : Bool) → differ a b ≡ false → a ≡ b
same a b e = grind arith

-- f is the same all the way where no two neighbours differ
pub same-run : (f : ℕ → Bool) (v d : ℕ) → ((j : ℕ) → v < j → j ≤ v + d → differ (f j) (f (j - 1)) ≡ false) → f v ≡ f (v + d)
same-run f v zero h = ap f (omega arith)
same-run f v (suc d) h =
    let back : v + suc d - 1 ≡ v + d = omega arith in
    same-run f v d (λ j a b. h j a (omega arith)) ∙ sym (ap f back) ∙ sym (same (f (v + suc d)) (f (v + suc d - 1)) (h (v + suc d) (omega arith) (omega arith)))
