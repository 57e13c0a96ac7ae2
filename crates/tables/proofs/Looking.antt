-- What look-up answers is so. Assumes nothing.
use Rattle.std.proofs.Common.{◌≡◌, ℕ, suc, true, List, [], ◌∷◌, map, Some, None, unwrap_or, sym, refl, ap, ◌∙◌, subst, inl, inr, zero-add, arith}
use Rattle.std.specs.List.{slice_get, AllByRecursion}
use Rattle.std.proofs.ByRecursion.{All-append, All-map, All-weaker}
use Rattle.std.proofs.lemmas.Bool.{cond_both, cond-false, cond-true}
use Rattle.std.proofs.lemmas.Bool.Decides.{nat_tests}
use Rattle.kinds.specs.Meaning.{Meaning}
use Rattle.faults.specs.declared.LookupFault.TheVariants.{OutOfRange, Barred as NotPossible}
use Rattle.items.specs.declared.Scope.{Scope}
use Rattle.items.specs.declared.Scope.TheVariants.{Flight, Pair}
use Rattle.items.specs.declared.Quantity.{Quantity}
use Rattle.tables.specs.Words.{or_else, first}
use Rattle.results.specs.Results.{Results}
use Rattle.tables.specs.Contents.{Contents, Encounter, Place, InRange, sides, places, places_from, value_of, whole, exchange, within, place_in_range}
use Rattle.tables.specs.Outcomes.{Outcome, barred, gap, clash, answer, outcome}
use Rattle.tables.specs.Lookups.{Look, short_for, no_result, found, by_outcome, outside_at, look_up}
use Rattle.tables.specs.LookedUp.{Outside, FirstOutside, Tells, LookedUpRightly}
use Rattle.tables.proofs.Lists.{none-some, some_same, all_split, map-all, cut-here, cut-weaker, FirstBy, first-or}
use Rattle.tables.proofs.Placing.{place, placed}
use Rattle.tables.proofs.Fitting.{outcome_fits}

module _ {V C R : Type 0} (m : Meaning V C) (r : Results R) (c : Contents V C R) where
  -- the exchanged encounter is in range too
  exchange-sides : (e : Encounter V) (k : Scope) (i : ℕ) (q : Quantity V) → AllByRecursion (λ s. place_in_range m e (place i q s)) (sides k) → AllByRecursion (λ s. place_in_range m (exchange c e) (place i q s)) (sides k)
  exchange-sides e Flight i q h = (h.1.0, (h.0, tt))
  exchange-sides e Pair i q h = h

  exchange-from : (e : Encounter V) (i : ℕ) (qs : List (Quantity V)) → AllByRecursion (place_in_range m e) (places_from i qs) → AllByRecursion (place_in_range m (exchange c e)) (places_from i qs)
  exchange-from e i [] h = tt
  exchange-from e i (q ∷ qs) h =
      let t = all_split (place_in_range m e) (map (place i q) (sides q.scope)) (places_from (suc i) qs) h in
      All-append (place_in_range m (exchange c e)) (map (place i q) (sides q.scope)) (places_from (suc i) qs)
      (All-map (place_in_range m (exchange c e)) (place i q) (sides q.scope) (exchange-sides e q.scope i q (map-all (place_in_range m e) (place i q) (sides q.scope) t.0)))
      (exchange-from e (suc i) qs t.1)

  exchange-in : (e : Encounter V) → InRange m c e → InRange m c (exchange c e)
  exchange-in e h = exchange-from e 0 c.quantities h

  exchange-whole : (e : Encounter V) → whole e ≡ true → whole (exchange c e) ≡ true
  exchange-whole e h = grind (arith, nat_tests)

  -- what one place shows
  abbrev shown : Place V → Look R
  shown p = no_result (OutOfRange p.side p.number)

  in-by : (e : Encounter V) (p : Place V) → outside_at m r c e p ≡ None → place_in_range m e p
  in-by e p h = cond_both (within m p.quantity (value_of e p)) None (Some (shown p)) (λ o. o ≡ None → place_in_range m e p) (λ t _. t) (λ _ k. none-some (shown p) (sym k)) h

  out-by : (e : Encounter V) (p : Place V) (y : Look R) → outside_at m r c e p ≡ Some y → Outside m r c e p × (shown p ≡ y)
  out-by e p y h = cond_both (within m p.quantity (value_of e p)) None (Some (shown p)) (λ o. o ≡ Some y → Outside m r c e p × (shown p ≡ y)) (λ _ k. none-some y k) (λ f k. (f, some_same (shown p) y k)) h

  none-outside : (e : Encounter V) (ps : List (Place V)) → AllByRecursion (place_in_range m e) ps → first (outside_at m r c e) ps ≡ None
  none-outside e [] h = refl
  none-outside e (p ∷ ps) h = subst (λ o. or_else o (first (outside_at m r c e) ps) ≡ None) (sym (cond-true (within m p.quantity (value_of e p)) None (Some (shown p)) h.0)) (none-outside e ps h.1)

  outcome-tells : (e : Encounter V) → InRange m c e → (o : Outcome R) → outcome m r c e ≡ o → Tells m r c e (by_outcome o)
  outcome-tells e h barred q = (h, q)
  outcome-tells e h gap q = (h, q)
  outcome-tells e h (clash i j) q = (h, (i, (j, q)))
  outcome-tells e h (answer x) q = (h, q)

  first-outside : (e : Encounter V) (k : FirstBy (outside_at m r c e) (places c)) → FirstOutside m r c e k.here.side k.here.number
  first-outside e k = record {
    cut = cut-weaker (λ p. outside_at m r c e p ≡ None) (λ p. (y : Look R) × (outside_at m r c e p ≡ Some y)) (place_in_range m e) (Outside m r c e) (in-by e) (λ p h. (out-by e p h.0 h.1).0) (places c) k;
    side = refl;
    number = refl;
    quantity = cut-here (λ p. outside_at m r c e p ≡ None) (λ p. (y : Look R) × (outside_at m r c e p ≡ Some y)) (λ p. slice_get c.quantities p.number ≡ Some p.quantity) (places c) (placed c.quantities c.quantities 0 (λ i. ap (slice_get c.quantities) (zero-add i))) k;
  }

  look-tells : (e : Encounter V) → Tells m r c e (look_up m r c e)
  look-tells e =
      cond_both (whole e) _ short_for (Tells m r c e)
      (λ w. first-or (Tells m r c e) (outside_at m r c e) (by_outcome (outcome m r c e)) (places c)
      (λ k. subst (Tells m r c e) (out-by e k.here k.found.0 k.found.1).1 (first-outside e k))
      (λ a. outcome-tells e (All-weaker (λ p. outside_at m r c e p ≡ None) (place_in_range m e) (in-by e) (places c) a) (outcome m r c e) refl))
      (λ f. f)

  look_in : (e : Encounter V) → whole e ≡ true → InRange m c e → look_up m r c e ≡ by_outcome (outcome m r c e)
  look_in e w h = cond-true (whole e) _ short_for w ∙ ap (λ o. unwrap_or o (by_outcome (outcome m r c e))) (none-outside e (places c) h)

  -- an answer that is by_outcome was looked up
  look-whole : (e : Encounter V) (l : Look R) → (short_for ≡ l → ⊥) → look_up m r c e ≡ l → whole e ≡ true
  look-whole e l n q = cond_both (whole e) (unwrap_or (first (outside_at m r c e) (places c)) (by_outcome (outcome m r c e))) short_for (λ o. o ≡ l → whole e ≡ true) (λ w _. w) (λ _ k. absurd (n k)) q

  pub looked-up-rightly : (e : Encounter V) → LookedUpRightly m r c e
  looked-up-rightly e = record {
    fits = outcome_fits m r c e;
    tells = look-tells e;
    short = λ h. cond-false (whole e) _ short_for h;
    in_range = look_in e;
    settled = λ w h f. elim (f.settled e h) [ inl b ↦ inl (look_in e w h ∙ ap by_outcome b) | inr a ↦ inr (a.0, look_in e w h ∙ ap by_outcome a.1) ];
    still_barred = λ f q.
        let t = subst (Tells m r c e) q (look-tells e) in
        let w = look-whole e (no_result NotPossible) (λ k. let z : ◌≡◌ {A = ℕ} 0 1 = cc in omega arith) q in
        look_in (exchange c e) (exchange-whole e w) (exchange-in e t.0) ∙ ap by_outcome (f.still_barred e t.0 t.1);
    still_found = λ f x q.
        let t = subst (Tells m r c e) q (look-tells e) in
        let w = look-whole e (found x) (λ k. let z : ◌≡◌ {A = ℕ} 0 1 = cc in omega arith) q in
        let y = f.still_answered e t.0 x t.1 in
        (y.0, (look_in (exchange c e) (exchange-whole e w) (exchange-in e t.0) ∙ ap by_outcome y.1.0, y.1.1));
  }
