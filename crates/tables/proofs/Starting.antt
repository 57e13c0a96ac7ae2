-- What the starts are, in the words of the stops. Assumes nothing.
use Rattle.std.proofs.Common.{◌≡◌, ◌<◌, ◌≤◌, leb, ◌⊎◌, List, [], ◌∷◌, Some, None, Option, sym, refl, ap, ◌∙◌, subst, inl, inr, arith}
use Rattle.std.specs.List.{AllByRecursion}
use Rattle.std.proofs.ByRecursion.{All-weaker}
use Rattle.std.proofs.lemmas.Bool.{cond_both, cond-true, cond-false, cases_Bool, leb-true, leb-false}
use Rattle.kinds.specs.Meaning.{Meaning, Lawful, earlier}
use Rattle.tables.specs.Words.{Any}
use Rattle.tables.specs.Starts.{not_after, earliest, onward, starts_on}
use Rattle.tables.specs.Bridges.{StartsGoOn}
use Rattle.tables.proofs.Lists.{none-some, some_same}
use Rattle.tables.proofs.Covering.{starts-on}

module _ {V C : Type 0} (m : Meaning V C) (law : Lawful m) where
  abbrev NotBefore : V → V → C → Type 0
  NotBefore v s x = (t : V) → m.stop x v ≡ Some t → m.rank s ≤ m.rank t

  -- o is the earliest stop of the cells after v, if any has one
  abbrev IsEarliest : List C → V → Option V → Type 0
  IsEarliest xs v o = ((s : V) × ((o ≡ Some s) × (Any (λ x. m.stop x v ≡ Some s) xs × AllByRecursion (NotBefore v s) xs))) ⊎ ((o ≡ None) × AllByRecursion (λ x. m.stop x v ≡ None) xs)

  absent : (v s : V) (x : C) → m.stop x v ≡ None → NotBefore v s x
  absent v s x n t k = none-some t (sym n ∙ k)

  present : (v s y : V) (x : C) → m.stop x v ≡ Some y → m.rank s ≤ m.rank y → NotBefore v s x
  present v s y x q l t k = let e : y ≡ t = some_same y t (sym q ∙ k) in subst (λ t. m.rank s ≤ m.rank t) e l

  add : (x : C) (xs : List C) (v : V) (o u : Option V) → m.stop x v ≡ o → IsEarliest xs v u → IsEarliest (x ∷ xs) v (earlier m.rank o u)
  add x xs v None u q (inl t) = inl (t.0, (t.1.0, (inr t.1.1.0, (absent v t.0 x q, t.1.1.1))))
  add x xs v None u q (inr n) = inr (n.0, (q, n.1))
  add x xs v (Some y) None q (inl t) = none-some t.0 t.1.0
  add x xs v (Some y) None q (inr n) = inl (y, (refl, (inl q, (present v y y x q (omega arith), All-weaker (λ x. m.stop x v ≡ None) (NotBefore v y) (absent v y) xs n.1))))
  add x xs v (Some y) (Some s) q (inr n) = none-some s (sym n.0)
  add x xs v (Some y) (Some s) q (inl t) =
      let e : s ≡ t.0 = some_same s t.0 t.1.0 in
      let some : Any (λ x. m.stop x v ≡ Some s) xs = subst (λ s. Any (λ x. m.stop x v ≡ Some s) xs) (sym e) t.1.1.0 in
      let all : AllByRecursion (NotBefore v s) xs = subst (λ s. AllByRecursion (NotBefore v s) xs) (sym e) t.1.1.1 in
      cond_both (leb (m.rank y) (m.rank s)) (Some y) (Some s) (IsEarliest (x ∷ xs) v)
      (λ l. let le = leb-true (m.rank y) (m.rank s) l in
      inl (y, (refl, (inl q, (present v y y x q (omega arith), All-weaker (NotBefore v s) (NotBefore v y) (λ x h t k. omega (arith, le, h t k)) xs all)))))
      (λ f. let lt = leb-false (m.rank y) (m.rank s) f in inl (s, (refl, (inr some, (present v s y x q (omega arith), all)))))

  is-earliest : (xs : List C) (v : V) → IsEarliest xs v (earliest m xs v)
  is-earliest [] v = inr (refl, tt)
  is-earliest (x ∷ xs) v = add x xs v (m.stop x v) (earliest m xs v) refl (is-earliest xs v)

  pub starts-go-on : StartsGoOn m
  starts-go-on xs z v = elim (is-earliest xs v) [
    | inl t ↦
        let s = t.0 in
        let step : starts_on m xs z v ≡ v ∷ onward (starts_on m xs z) (not_after m.rank z (Some s)) = starts-on m law xs z v ∙ ap (λ o. v ∷ onward (starts_on m xs z) (not_after m.rank z o)) t.1.0 in
        elim (cases_Bool (leb (m.rank s) (m.rank z))) [
          | inl l ↦ inl (s, (record { stops = t.1.1.0; earliest = t.1.1.1; within = leb-true (m.rank s) (m.rank z) l }, step ∙ ap (λ o. v ∷ onward (starts_on m xs z) o) (cond-true (leb (m.rank s) (m.rank z)) (Some s) None l)))
          | inr f ↦ inr (All-weaker (NotBefore v s) (λ x. (t : V) → m.stop x v ≡ Some t → m.rank z < m.rank t) (λ x h t k. omega (arith, leb-false (m.rank s) (m.rank z) f, h t k)) xs t.1.1.1, step ∙ ap (λ o. v ∷ onward (starts_on m xs z) o) (cond-false (leb (m.rank s) (m.rank z)) (Some s) None f))
        ]
    | inr n ↦ inr (
      All-weaker (λ x. m.stop x v ≡ None) (λ x. (t : V) → m.stop x v ≡ Some t → m.rank z < m.rank t) (λ x h t k. none-some t (sym h ∙ k)) xs n.1,
      starts-on m law xs z v ∙ ap (λ o. v ∷ onward (starts_on m xs z) (not_after m.rank z o)) n.0,
    )
  ]
