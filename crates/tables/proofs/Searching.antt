-- The search one by one goes through the encounters made of starts in order. Assumes nothing.
use Rattle.std.proofs.Common.{◌≡◌, ◌<◌, Bool, true, false, cond, List, [], ◌∷◌, ◌++◌, is_some, Some, None, Option, unwrap_or, sym, refl, ap, ◌∙◌, ap₂, arith}
use Rattle.std.specs.Option.{option_map}
use Rattle.std.specs.List.{AllByRecursion}
use Rattle.kinds.specs.Meaning.{Meaning, Lawful}
use Rattle.tables.specs.Words.{each, or_else}
use Rattle.results.specs.Results.{Results}
use Rattle.tables.specs.Contents.{Contents, Encounter, Place, places, whole, value_of, put_at}
use Rattle.tables.specs.Acceptance.{Acceptable}
use Rattle.tables.specs.Starts.{cells_of, onward, starts_on, choices, reset, next_at, advance, remaining, turned_at, turned}
use Rattle.tables.specs.Bridges.{OneByOne}
use Rattle.tables.proofs.Lists.{none-some, some_same, nth-some, each_same}
use Rattle.tables.proofs.Covering.{starts-on}
use Rattle.tables.proofs.Placing.{Apart, Separate, separate, put-here, put-put, put_whole}
use Rattle.tables.proofs.Keeping.{apart-untouched, reset-keep}
use Rattle.tables.proofs.Bridging.{Placed, all_placed}

module _ {V C R : Type 0} (m : Meaning V C) (law : Lawful m) (r : Results R) (c : Contents V C R) (ok : Acceptable m r c) where
  reset-at : (p : Place V) (ps : List (Place V)) → AllByRecursion (Apart p) ps → (e : Encounter V) → value_of (reset m c ps e) p ≡ value_of e p
  reset-at p ps a e = reset-keep m c p.side p.number ps (apart-untouched p ps a) e

  reset-put : (p : Place V) (ps : List (Place V)) → AllByRecursion (Apart p) ps → (v : V) (e : Encounter V) → put_at p v (reset m c ps e) ≡ reset m c ps (put_at p v e)
  reset-put p [] a v e = refl
  reset-put p (t ∷ ps) a v e = reset-put p ps a.1 v (put_at t t.quantity.least e) ∙ ap (reset m c ps) (a.0.1 v t.quantity.least e)

  -- v put at p, whatever was put there before
  put-reset : (p : Place V) (ps : List (Place V)) → AllByRecursion (Apart p) ps → (v w : V) (e : Encounter V) → put_at p v (reset m c ps (put_at p w e)) ≡ reset m c ps (put_at p v e)
  put-reset p ps a v w e = reset-put p ps a v (put_at p w e) ∙ ap (reset m c ps) (put-put p.side p.number v w e)

  pub reset-reset : (ps : List (Place V)) → Separate ps → (e : Encounter V) → reset m c ps (reset m c ps e) ≡ reset m c ps e
  reset-reset [] d e = refl
  reset-reset (p ∷ ps) d e = ap (reset m c ps) (put-reset p ps d.0 p.quantity.least p.quantity.least e) ∙ reset-reset ps d.1 (put_at p p.quantity.least e)

  choices-reset : (ps : List (Place V)) → Separate ps → (e : Encounter V) → choices m c ps (reset m c ps e) ≡ choices m c ps e
  choices-reset [] d e = refl
  choices-reset (p ∷ ps) d e =
      each_same (λ v. choices m c ps (put_at p v (reset m c ps (put_at p p.quantity.least e)))) (λ v. choices m c ps (put_at p v e))
      (λ v. ap (choices m c ps) (put-reset p ps d.0 v p.quantity.least e) ∙ choices-reset ps d.1 (put_at p v e)) (starts_on m (cells_of c p.number) p.quantity.greatest p.quantity.least)

  -- two that differ only at ps
  choices-outside : (p : Place V) (ps : List (Place V)) → Separate (p ∷ ps) → (e s : Encounter V) → reset m c ps s ≡ reset m c ps e → (v : V) → choices m c ps (put_at p v s) ≡ choices m c ps (put_at p v e)
  choices-outside p ps d e s h v =
      sym (choices-reset ps d.1 (put_at p v s)) ∙ ap (choices m c ps) (sym (reset-put p ps d.0 v s) ∙ ap (put_at p v) h ∙ reset-put p ps d.0 v e) ∙ choices-reset ps d.1 (put_at p v e)

  abbrev later : Place V → Option V → List V
  later p o = onward (starts_on m (cells_of c p.number) p.quantity.greatest) (next_at m c p o)

  remaining-at : (p : Place V) (ps : List (Place V)) → Separate (p ∷ ps) → Placed m law r c ok p → (w : V) (e : Encounter V) → whole e ≡ true → remaining m c ps (reset m c ps (put_at p w e)) ≡ choices m c ps (put_at p w e)
      → remaining m c (p ∷ ps) (reset m c ps (put_at p w e)) ≡ each (starts_on m (cells_of c p.number) p.quantity.greatest w) (λ v. choices m c ps (put_at p v e))
  remaining-at p ps d n w e l ih =
      let few : p.number < 16 = omega (arith, nth-some c.quantities p.number p.quantity n, ok.quantities.0) in
      let s = reset m c ps (put_at p w e) in
      let f : V → List (Encounter V) = λ v. choices m c ps (put_at p v e) in
      let here : value_of s p ≡ Some w = reset-at p ps d.0 (put_at p w e) ∙ put-here p.side p.number w e l few in
      ap₂ ◌++◌ ih
      (each_same (λ v. choices m c ps (put_at p v s)) f (λ v. ap (choices m c ps) (put-reset p ps d.0 v w e) ∙ choices-reset ps d.1 (put_at p v e)) (later p (value_of s p)) ∙ ap (λ o. each (later p o) f) here)
      ∙ sym (ap (λ vs. each vs f) (starts-on m law (cells_of c p.number) p.quantity.greatest w))

  remaining-reset : (ps : List (Place V)) → Separate ps → AllByRecursion (Placed m law r c ok) ps → (e : Encounter V) → whole e ≡ true → remaining m c ps (reset m c ps e) ≡ choices m c ps e
  remaining-reset [] d n e l = refl
  remaining-reset (p ∷ ps) d n e l =
      let w = p.quantity.least in
      remaining-at p ps d n.0 w e l (remaining-reset ps d.1 n.1 (put_at p w e) (put_whole p.side p.number w e l))

  -- an advance changes only the places
  advance-by : (p : Place V) (ps : List (Place V)) → Separate (p ∷ ps) → (e s : Encounter V) → (o : Option (Encounter V)) → ((x : Encounter V) → o ≡ Some x → reset m c ps x ≡ reset m c ps e) → (u : Option V)
      → or_else o (option_map (λ v. reset m c ps (put_at p v e)) u) ≡ Some s → reset m c (p ∷ ps) s ≡ reset m c (p ∷ ps) e
  advance-by p ps d e s (Some x) h u k =
      let w = p.quantity.least in
      sym (reset-put p ps d.0 w s) ∙ ap (put_at p w) (h s k) ∙ reset-put p ps d.0 w e
  advance-by p ps d e s None h None k = none-some s k
  advance-by p ps d e s None h (Some v) k =
      let w = p.quantity.least in
      ap (λ x. reset m c ps (put_at p w x)) (sym (some_same (reset m c ps (put_at p v e)) s k)) ∙ ap (reset m c ps) (put-reset p ps d.0 w v e) ∙ reset-reset ps d.1 (put_at p w e)

  pub advance-reset : (ps : List (Place V)) → Separate ps → (e s : Encounter V) → advance m c ps e ≡ Some s → reset m c ps s ≡ reset m c ps e
  advance-reset [] d e s k = none-some s k
  advance-reset (p ∷ ps) d e s k = advance-by p ps d e s (advance m c ps e) (λ x. advance-reset ps d.1 e x) (next_at m c p (value_of e p)) k

  step_by : (p : Place V) (ps : List (Place V)) → Separate (p ∷ ps) → AllByRecursion (Placed m law r c ok) (p ∷ ps) → (e : Encounter V) → whole e ≡ true → (o : Option (Encounter V)) → advance m c ps e ≡ o → remaining m c ps e ≡ e ∷ onward (remaining m c ps) o
      → (u : Option V) → next_at m c p (value_of e p) ≡ u → remaining m c (p ∷ ps) e ≡ e ∷ onward (remaining m c (p ∷ ps)) (or_else o (option_map (λ v. reset m c ps (put_at p v e)) u))
  step_by p ps d n e l (Some s) k ih u q =
      let h = advance-reset ps d.1 e s k in
      let value : value_of s p ≡ value_of e p = sym (reset-at p ps d.0 s) ∙ ap (λ x. value_of x p) h ∙ reset-at p ps d.0 e in
      ap (λ xs. xs ++ each (later p (value_of e p)) (λ v. choices m c ps (put_at p v e))) ih
      ∙ ap (λ xs. e ∷ (remaining m c ps s ++ xs)) (ap (λ o. each (later p o) (λ v. choices m c ps (put_at p v e))) (sym value) ∙ each_same (λ v. choices m c ps (put_at p v e)) (λ v. choices m c ps (put_at p v s)) (λ v. sym (choices-outside p ps d e s h v)) (later p (value_of s p)))
  step_by p ps d n e l None k ih None q =
      ap₂ ◌++◌ ih (ap (λ u. each (onward (starts_on m (cells_of c p.number) p.quantity.greatest) u) (λ v. choices m c ps (put_at p v e))) q)
  step_by p ps d n e l None k ih (Some w) q =
      ap₂ ◌++◌ ih (ap (λ u. each (onward (starts_on m (cells_of c p.number) p.quantity.greatest) u) (λ v. choices m c ps (put_at p v e))) q)
      ∙ ap (λ xs. e ∷ xs) (sym (remaining-at p ps d n.0 w e l (remaining-reset ps d.1 n.1 (put_at p w e) (put_whole p.side p.number w e l))))

  step : (ps : List (Place V)) → Separate ps → AllByRecursion (Placed m law r c ok) ps → (e : Encounter V) → whole e ≡ true → remaining m c ps e ≡ e ∷ onward (remaining m c ps) (advance m c ps e)
  step [] d n e l = refl
  step (p ∷ ps) d n e l = step_by p ps d n e l (advance m c ps e) refl (step ps d.1 n.1 e l) (next_at m c p (value_of e p)) refl

  abbrev Turned : List (Place V) → Encounter V → Option (Encounter V) → Bool × Encounter V
  Turned ps e o = (is_some o, unwrap_or o (reset m c ps e))

  turned_by : (p : Place V) (ps : List (Place V)) → AllByRecursion (Apart p) ps → (e : Encounter V) (o : Option (Encounter V)) (u : Option V) → next_at m c p (value_of e p) ≡ u
      → cond (is_some o) (Turned ps e o) (turned_at m c p (Turned ps e o) (next_at m c p (value_of (unwrap_or o (reset m c ps e)) p))) ≡ Turned (p ∷ ps) e (or_else o (option_map (λ v. reset m c ps (put_at p v e)) u))
  turned_by p ps a e (Some s) u q = refl
  turned_by p ps a e None u q =
      ap (turned_at m c p (false, reset m c ps e)) (ap (next_at m c p) (reset-at p ps a e) ∙ q) ∙ at u
    where
      at : (u : Option V) → turned_at m c p (false, reset m c ps e) u ≡ Turned (p ∷ ps) e (option_map (λ v. reset m c ps (put_at p v e)) u)
      at None = ap (λ x. (false, x)) (reset-put p ps a p.quantity.least e)
      at (Some v) = ap (λ x. (true, x)) (reset-put p ps a v e)

  turned-is : (ps : List (Place V)) → Separate ps → (e : Encounter V) → turned m c ps e ≡ Turned ps e (advance m c ps e)
  turned-is [] d e = refl
  turned-is (p ∷ ps) d e =
      ap (λ s. cond s.0 s (turned_at m c p s (next_at m c p (value_of s.1 p)))) (turned-is ps d.1 e)
      ∙ turned_by p ps d.0 e (advance m c ps e) (next_at m c p (value_of e p)) refl

  reset-least : (ps : List (Place V)) → Separate ps → AllByRecursion (Placed m law r c ok) ps → (e : Encounter V) → whole e ≡ true → AllByRecursion (λ p. value_of (reset m c ps e) p ≡ Some p.quantity.least) ps
  reset-least [] d n e l = tt
  reset-least (p ∷ ps) d n e l =
      let w = p.quantity.least in
      let few : p.number < 16 = omega (arith, nth-some c.quantities p.number p.quantity n.0, ok.quantities.0) in
      (reset-at p ps d.0 (put_at p w e) ∙ put-here p.side p.number w e l few, reset-least ps d.1 n.1 (put_at p w e) (put_whole p.side p.number w e l))

  pub one_by_one : OneByOne m r c
  one_by_one e l =
      let d = separate 0 c.quantities in
      let n = all_placed m law r c ok in
      (remaining-reset (places c) d n e l, step (places c) d n e l, turned-is (places c) d e, reset-least (places c) d n e l)
