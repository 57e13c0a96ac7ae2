-- What each outcome means. Assumes nothing.
use Rattle.std.proofs.Common.{◌≡◌, ℕ, suc, ◌+◌, true, false, ◌⊎◌, List, [], ◌∷◌, length, Some, None, Option, sym, refl, ap, ◌∙◌, subst, inl, inr, zero-add, arith}
use Rattle.std.specs.List.{AllByRecursion}
use Rattle.std.proofs.lemmas.Bool.{cond_both, cond-true, cond-false, cases_Bool, or_cases, or_parts, false≢true}
use Rattle.kinds.specs.Meaning.{Meaning}
use Rattle.items.specs.declared.Entry.{Entry}
use Rattle.tables.specs.Words.{Any, Cut}
use Rattle.results.specs.Results.{Results}
use Rattle.tables.specs.Contents.{Contents, Column, Encounter}
use Rattle.tables.specs.Outcomes.{barred, met, some_met, columns_met, unequal, clash_or_answer, judged, outcome}
use Rattle.tables.specs.Faultless.{Meets}
use Rattle.tables.specs.LookedUp.{Unmet, NoNever, Agrees, Disagrees, Fits}
use Rattle.tables.proofs.Lists.{longer}

module _ {V C R : Type 0} (m : Meaning V C) (r : Results R) (c : Contents V C R) (e : Encounter V) where
  abbrev found : ℕ → List (Column C R) → List (ℕ × R)
  found n xs = columns_met m n c.rows xs e

  abbrev Lowest : ℕ → List (Column C R) → Type 0
  Lowest n xs = (k : Cut (Unmet m r c e) (Meets m r c e) xs) × ((i : ℕ) × ((i ≡ n + length k.before) × (found n xs ≡ (i, k.here.result) ∷ found (suc i) k.rest)))

  lowest : (n : ℕ) (xs : List (Column C R)) → ((found n xs ≡ []) × AllByRecursion (Unmet m r c e) xs) ⊎ Lowest n xs
  lowest n [] = inl (refl, tt)
  lowest n (x ∷ xs) = elim (cases_Bool (met m c.rows x.entries e)) [
    | inl t ↦ inr (record { before = []; here = x; rest = xs; is = refl; all = tt; found = t }, (n, (omega arith, cond-true (met m c.rows x.entries e) ((n, x.result) ∷ found (suc n) xs) (found (suc n) xs) t)))
    | inr f ↦ let skip = cond-false (met m c.rows x.entries e) ((n, x.result) ∷ found (suc n) xs) (found (suc n) xs) f in
        elim (lowest (suc n) xs) [
          | inl h ↦ inl (skip ∙ h.0, (f, h.1))
          | inr h ↦ inr (longer (Unmet m r c e) (Meets m r c e) x xs f h.0, (h.1.0, (omega (arith, h.1.1.0), skip ∙ h.1.1.1)))
        ]
  ]

  abbrev Unequal : R → ℕ → List (Column C R) → Type 0
  Unequal t n xs = (l : Cut (Agrees m r c e t) (Disagrees m r c e t) xs) × ((j : ℕ) × ((j ≡ n + length l.before) × (unequal r t (found n xs) ≡ Some j)))

  next-unequal : (t : R) (n : ℕ) (xs : List (Column C R)) → ((unequal r t (found n xs) ≡ None) × AllByRecursion (Agrees m r c e t) xs) ⊎ Unequal t n xs
  next-unequal t n [] = inl (refl, tt)
  next-unequal t n (x ∷ xs) =
      let rest = next-unequal t (suc n) xs in
      let on : Agrees m r c e t x → unequal r t (found n (x ∷ xs)) ≡ unequal r t (found (suc n) xs) → ((unequal r t (found n (x ∷ xs)) ≡ None) × AllByRecursion (Agrees m r c e t) (x ∷ xs)) ⊎ Unequal t n (x ∷ xs) = λ a skip.
      elim rest [
        | inl h ↦ inl (skip ∙ h.0, (a, h.1))
        | inr h ↦ inr (longer (Agrees m r c e t) (Disagrees m r c e t) x xs a h.0, (h.1.0, (omega (arith, h.1.1.0), skip ∙ h.1.1.1)))
      ] in
      elim (cases_Bool (met m c.rows x.entries e)) [
        | inl y ↦ let here = ap (unequal r t) (cond-true (met m c.rows x.entries e) ((n, x.result) ∷ found (suc n) xs) (found (suc n) xs) y) in
            elim (cases_Bool (r.same t x.result)) [
              | inl s ↦ on (λ _. s) (here ∙ cond-true (r.same t x.result) (unequal r t (found (suc n) xs)) (Some n) s)
              | inr s ↦ inr (record { before = []; here = x; rest = xs; is = refl; all = tt; found = (y, s) }, (n, (omega arith, here ∙ cond-false (r.same t x.result) (unequal r t (found (suc n) xs)) (Some n) s)))
            ]
        | inr f ↦ on (λ y. absurd (false≢true (sym f ∙ y))) (ap (unequal r t) (cond-false (met m c.rows x.entries e) ((n, x.result) ∷ found (suc n) xs) (found (suc n) xs) f))
      ]

  by_default : (d : Option R) → c.default ≡ d → NoNever m r c e → AllByRecursion (Unmet m r c e) c.columns → Fits m r c e (judged r d [])
  by_default None q nn u = (nn, u, q)
  by_default (Some x) q nn u = (nn, inr (u, q))

  by-columns : NoNever m r c e → Fits m r c e (judged r c.default (found 0 c.columns))
  by-columns nn = elim (lowest 0 c.columns) [
    | inl h ↦ subst (λ ks. Fits m r c e (judged r c.default ks)) (sym h.0) (by_default c.default refl nn h.1)
    | inr h ↦
        let k = h.0 in
        let i = h.1.0 in
        let t = k.here.result in
        subst (λ ks. Fits m r c e (judged r c.default ks)) (sym h.1.1.1)
        (elim (next-unequal t (suc i) k.rest) [
          | inl a ↦ subst (λ o. Fits m r c e (clash_or_answer r (i, t) o)) (sym a.0) (nn, inl (k, refl, a.1))
          | inr a ↦ subst (λ o. Fits m r c e (clash_or_answer r (i, t) o)) (sym a.1.1.1) (nn, k, h.1.1.0 ∙ zero-add (length k.before), a.0, a.1.1.0)
        ])
  ]

  some-never : (ns : List (List (Entry C))) → some_met m c.rows ns e ≡ true → Any (λ n. met m c.rows n e ≡ true) ns
  some-never [] h = absurd (false≢true h)
  some-never (n ∷ ns) h = elim (or_cases (met m c.rows n e) (some_met m c.rows ns e) h) [ inl t ↦ inl t | inr t ↦ inr (some-never ns t) ]

  no_never : (ns : List (List (Entry C))) → some_met m c.rows ns e ≡ false → AllByRecursion (λ n. met m c.rows n e ≡ false) ns
  no_never [] h = tt
  no_never (n ∷ ns) h = let t = or_parts (met m c.rows n e) (some_met m c.rows ns e) h in (t.0, no_never ns t.1)

  pub outcome_fits : Fits m r c e (outcome m r c e)
  outcome_fits =
      cond_both (some_met m c.rows c.nevers e) barred _ (Fits m r c e)
      (some-never c.nevers) (λ f. by-columns (no_never c.nevers f))
