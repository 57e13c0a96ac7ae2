-- The columns that an answered encounter meets bear the same result. Assumes nothing.
use Rattle.std.proofs.Common.{◌≡◌, ℕ, suc, true, List, [], ◌∷◌, Some, None, Option, sym, refl, ◌∙◌, subst, arith}
use Rattle.std.specs.List.{AllByRecursion}
use Rattle.std.proofs.ByRecursion.{All-weaker}
use Rattle.std.proofs.lemmas.Bool.{cond_both, false≢true}
use Rattle.kinds.specs.Meaning.{Meaning}
use Rattle.results.specs.Results.{Results, Equal}
use Rattle.items.specs.declared.Row.{Row}
use Rattle.tables.specs.Contents.{Contents, Column, Encounter}
use Rattle.tables.specs.Outcomes.{barred, answer, outcome, met, some_met, columns_met, unequal, clash_or_answer, judged}
use Rattle.tables.specs.Faultless.{Meets}
use Rattle.tables.proofs.Lists.{none-some}

module _ {R : Type 0} (r : Results R) (eq : Equal r) where
  none-unequal : (x : R) (ks : List (ℕ × R)) → unequal r x ks ≡ None → AllByRecursion (λ k. r.same x k.1 ≡ true) ks
  none-unequal x [] h = tt
  none-unequal x (k ∷ ks) h =
      cond_both (r.same x k.1) (unequal r x ks) (Some k.0) (λ o. o ≡ None → AllByRecursion (λ k. r.same x k.1 ≡ true) (k ∷ ks))
      (λ t e. (t, none-unequal x ks e)) (λ _ e. none-some k.0 (sym e)) h

  first-agrees : (x : R) (k : ℕ × R) (ks : List (ℕ × R)) (o : Option ℕ) → unequal r k.1 ks ≡ o → clash_or_answer r k o ≡ answer x → AllByRecursion (λ k. r.same x k.1 ≡ true) (k ∷ ks)
  first-agrees x k ks None e h = let y : k.1 ≡ x = cc in subst (λ x. AllByRecursion (λ k. r.same x k.1 ≡ true) (k ∷ ks)) y (eq.itself k.1, none-unequal k.1 ks e)
  first-agrees x k ks (Some j) e h = let z : ◌≡◌ {A = ℕ} 0 1 = cc in absurd (omega arith)

  all-agree : (x : R) (d : Option R) (ks : List (ℕ × R)) → judged r d ks ≡ answer x → AllByRecursion (λ k. r.same x k.1 ≡ true) ks
  all-agree x d [] h = tt
  all-agree x d (k ∷ ks) h = first-agrees x k ks (unequal r k.1 ks) refl h

columns-agree : {V C R : Type 0} (m : Meaning V C) (P : R → Type 0) (n : ℕ) (ws : List Row) (xs : List (Column C R)) (e : Encounter V) → AllByRecursion (λ k. P k.1) (columns_met m n ws xs e) → AllByRecursion (λ k. met m ws k.entries e ≡ true → P k.result) xs
columns-agree m P n ws [] e h = tt
columns-agree m P n ws (x ∷ xs) e h =
    cond_both (met m ws x.entries e) ((n, x.result) ∷ columns_met m (suc n) ws xs e) (columns_met m (suc n) ws xs e)
    (λ ks. AllByRecursion (λ k. P k.1) ks → AllByRecursion (λ k. met m ws k.entries e ≡ true → P k.result) (x ∷ xs))
    (λ t a. ((λ _. a.0), columns-agree m P (suc n) ws xs e a.1))
    (λ f a. ((λ t. absurd (false≢true (sym f ∙ t))), columns-agree m P (suc n) ws xs e a)) h

module _ {V C R : Type 0} (m : Meaning V C) (r : Results R) (eq : Equal r) (c : Contents V C R) (e : Encounter V) (x : R) (h : outcome m r c e ≡ answer x) where
  abbrev Bears : R → Column C R → Type 0
  Bears y k = Meets m r c e k → r.same y k.result ≡ true

  pub met-agree : AllByRecursion (Bears x) c.columns
  met-agree =
      cond_both (some_met m c.rows c.nevers e) barred (judged r c.default (columns_met m 0 c.rows c.columns e))
      (λ o. o ≡ answer x → AllByRecursion (Bears x) c.columns)
      (λ _ k. let z : ◌≡◌ {A = ℕ} 0 1 = cc in absurd (omega arith))
      (λ _ k. columns-agree m (λ y. r.same x y ≡ true) 0 c.rows c.columns e (all-agree r eq x c.default (columns_met m 0 c.rows c.columns e) k)) h

  pub any-two-agree : AllByRecursion (λ k. Meets m r c e k → AllByRecursion (Bears k.result) c.columns) c.columns
  any-two-agree =
      All-weaker (Bears x) (λ k. Meets m r c e k → AllByRecursion (Bears k.result) c.columns)
      (λ k a met. All-weaker (Bears x) (Bears k.result) (λ l b also. eq.on k.result x l.result (eq.back x k.result (a met)) (b also)) c.columns met-agree)
      c.columns met-agree
