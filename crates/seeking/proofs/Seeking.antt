-- One by one from an encounter on to the first that is sought. Assumes nothing.
use Rattle.std.proofs.Common.{◌≡◌, ℕ, ◌+◌, ◌≤◌, Bool, true, false, cond, List, [], ◌∷◌, length, is_some, Some, None, Option, unwrap_or, sym, refl, ap, ◌∙◌, subst, arith}
use Rattle.std.proofs.lemmas.Bool.{both_ways}
use Rattle.kinds.specs.Meaning.{Meaning, Lawful}
use Rattle.results.specs.Results.{Results}
use Rattle.tables.specs.Contents.{Contents, Encounter, Place, places, whole, value_of}
use Rattle.tables.specs.Acceptance.{Acceptable}
use Rattle.tables.specs.Starts.{count, from_starts, onward, reset, advance, remaining, next_at, turned_at, turned}
use Rattle.tables.proofs.Placing.{separate, put_whole}
use Rattle.tables.proofs.Searching.{one_by_one, advance-reset, reset-reset}
use Rattle.tables.proofs.Making.{made-of-starts}
use Rattle.std.specs.Borrow.{Bor}
use Rattle.std.specs.Fn.{Shared}
use Rattle.lists.specs.Held.{encounter_of}
use Rattle.lists.specs.declared.lent.Encounter.{Encounter as LentEncounter}
use Rattle.sets.specs.Walks.{first_of}
use Rattle.ways.specs.Ways.{EarliestFound}
use Rattle.seeking.specs.Seeks.{Ended, Tests}

pub ended_some : {X : Type 0} (o : Option X) (b : Bool) (x l : X) → b ≡ is_some o → x ≡ unwrap_or o l → b ≡ true → o ≡ Some x
ended_some None b x l t s h = absurd (both_ways b t h)
ended_some (Some y) b x l t s h = ap Some (sym s)

pub ended-none : {X : Type 0} (o : Option X) (b : Bool) (x l : X) → b ≡ is_some o → x ≡ unwrap_or o l → b ≡ false → (o ≡ None) × (x ≡ l)
ended-none None b x l t s h = (refl, s)
ended-none (Some y) b x l t s h = absurd (both_ways b h t)

pub tested : {F V : Type 0} {g : Shared F (Bor (LentEncounter V) × Unit {0}) Bool} {t : F} (f : Encounter V → Bool) {p : Bor (LentEncounter V)} {b : Bool} → Tests g t f → g.post t (p, tt) b → b ≡ f (encounter_of p.now)
tested f {p} {b} h is = h p.now b (record { shown = p; shows = refl; says = record { met = is } })

module _ {V C R : Type 0} (m : Meaning V C) (c : Contents V C R) where
  cond-whole : (b : Bool) (s t : Bool × Encounter V) → whole s.1 ≡ true → whole t.1 ≡ true → whole (cond b s t).1 ≡ true
  cond-whole true s t h k = h
  cond-whole false s t h k = k

  at-whole : (p : Place V) (s : Bool × Encounter V) (o : Option V) → whole s.1 ≡ true → whole (turned_at m c p s o).1 ≡ true
  at-whole p s None h = put_whole p.side p.number p.quantity.least s.1 h
  at-whole p s (Some v) h = put_whole p.side p.number v s.1 h

  turned-whole : (ps : List (Place V)) (e : Encounter V) → whole e ≡ true → whole (turned m c ps e).1 ≡ true
  turned-whole [] e h = h
  turned-whole (p ∷ ps) e h =
      let s = turned m c ps e in
      let k = turned-whole ps e h in
      cond-whole s.0 s (turned_at m c p s (next_at m c p (value_of s.1 p))) k (at-whole p s (next_at m c p (value_of s.1 p)) k)

  pub reset-whole : (ps : List (Place V)) (e : Encounter V) → whole e ≡ true → whole (reset m c ps e) ≡ true
  reset-whole [] e h = h
  reset-whole (p ∷ ps) e h = reset-whole ps _ (put_whole p.side p.number p.quantity.least e h)

module _ {V C R : Type 0} (m : Meaning V C) (law : Lawful m) (r : Results R) (c : Contents V C R) (ok : Acceptable m r c) where
  abbrev from : Encounter V → List (Encounter V)
  from = remaining m c (places c)

  abbrev least : Encounter V → Encounter V
  least = reset m c (places c)

  module _ (f : Encounter V → Bool) (lent : Encounter V) where
    -- after n encounters that are not sought, e is shown, and the first one sought is among it and those after it
    pub record On (k n : ℕ) (e : Encounter V) : Type 0 where
      pub left : n + length (from e) ≡ k
      pub first : first_of f (from e) ≡ first_of f (from lent)
      pub others : least e ≡ least lent
      pub lengths : whole e ≡ true

    abbrev pub End : Bool → Encounter V → Type 0
    End = Ended m c f (from lent) (least lent)

    pub unfinished : {X : Type 0} (k n : ℕ) (e : Encounter V) → k ≤ n → On k n e → X
    unfinished k n e h on = absurd (let one : 1 ≤ length (from e) = omega (arith, ap length (one_by_one m law r c ok e on.lengths).1) in omega (arith, on.left))

    pub hit : (k n : ℕ) (e : Encounter V) {t : Bool} → On k n e → t ≡ f e → t ≡ true → End true e
    hit k n e on is there =
        let found : first_of f (from lent) ≡ Some e = sym on.first ∙ ap (first_of f) (one_by_one m law r c ok e on.lengths).1 ∙ ap (λ b. cond b (Some e) (first_of f (onward from (advance m c (places c) e)))) (sym is ∙ there) in
        record { told = sym (ap is_some found); shows = sym (ap (λ o. unwrap_or o (least lent)) found); others = on.others; lengths = on.lengths }

    -- past an encounter that is not sought
    passed : (k n : ℕ) (e : Encounter V) {t : Bool} → On k n e → t ≡ f e → t ≡ false → first_of f (onward from (advance m c (places c) e)) ≡ first_of f (from lent)
    passed k n e on is gone =
        sym (sym on.first ∙ ap (first_of f) (one_by_one m law r c ok e on.lengths).1 ∙ ap (λ b. cond b (Some e) (first_of f (onward from (advance m c (places c) e)))) (sym is ∙ gone))

    some_is : (o : Option (Encounter V)) (b : Bool) (x l : Encounter V) → ◌≡◌ {A = Bool × Encounter V} (b, x) (is_some o, unwrap_or o l) → b ≡ true → o ≡ Some x
    some_is None b x l e h = absurd (both_ways b (ap (λ s. s.0) e) h)
    some_is (Some y) b x l e h = sym (ap (λ s. Some s.1) e)

    none_is : (o : Option (Encounter V)) (b : Bool) (x l : Encounter V) → ◌≡◌ {A = Bool × Encounter V} (b, x) (is_some o, unwrap_or o l) → b ≡ false → (o ≡ None) × (x ≡ l)
    none_is None b x l e h = (refl, ap (λ s. s.1) e)
    none_is (Some y) b x l e h = absurd (both_ways b h (ap (λ s. s.0) e))

    turned_on : (k n : ℕ) (e x : Encounter V) {b : Bool} → On k n e → (b, x) ≡ turned m c (places c) e → whole x ≡ true
    turned_on k n e x on t = ap (λ s. whole s.1) t ∙ turned-whole m c (places c) e on.lengths

    pub step : (k n : ℕ) (e x : Encounter V) {t b : Bool} → On k n e → t ≡ f e → t ≡ false → (b, x) ≡ turned m c (places c) e → b ≡ true → On k (n + 1) x
    step k n e x {b = b} on is gone t more =
        let here : advance m c (places c) e ≡ Some x = some_is (advance m c (places c) e) b x (least e) (t ∙ (one_by_one m law r c ok e on.lengths).2) more in
        let rest : from e ≡ e ∷ from x = (one_by_one m law r c ok e on.lengths).1 ∙ ap (λ o. e ∷ onward from o) here in
        record {
          left = omega (arith, ap length rest, on.left);
          first = sym (ap (λ o. first_of f (onward from o)) here) ∙ passed k n e on is gone;
          others = advance-reset m law r c ok (places c) (separate 0 c.quantities) e x here ∙ on.others;
          lengths = turned_on k n e x on t;
        }

    pub over : (k n : ℕ) (e x : Encounter V) {t b : Bool} → On k n e → t ≡ f e → t ≡ false → (b, x) ≡ turned m c (places c) e → b ≡ false → End false x
    over k n e x {b = b} on is gone t last =
        let here = none_is (advance m c (places c) e) b x (least e) (t ∙ (one_by_one m law r c ok e on.lengths).2) last in
        let none : first_of f (from lent) ≡ None = sym (passed k n e on is gone) ∙ ap (λ o. first_of f (onward from o)) here.0 in
        record {
          told = sym (ap is_some none);
          shows = here.1 ∙ on.others ∙ sym (ap (λ o. unwrap_or o (least lent)) none);
          others = ap least here.1 ∙ reset-reset m law r c ok (places c) (separate 0 c.quantities) e ∙ on.others;
          lengths = turned_on k n e x on t;
        }

  -- from the least values on, all of them
  all_left : (e : Encounter V) → whole e ≡ true → from (least e) ≡ from_starts m c e
  all_left e w = (one_by_one m law r c ok e w).0

  pub counted : (e x : Encounter V) (k : ℕ) → whole e ≡ true → x ≡ least e → k ≡ count m c → length (from x) ≡ k
  counted e x k w is n = ap (λ x. length (from x)) is ∙ ap length (all_left e w) ∙ (made-of-starts m law r c ok e w).0 ∙ sym n

  -- those of two encounters that differ only in needed values
  pub same-starts : (e x : Encounter V) → whole e ≡ true → whole x ≡ true → least x ≡ least e → from_starts m c x ≡ from_starts m c e
  same-starts e x w v h = sym (all_left x v) ∙ ap from h ∙ all_left e w

  pub from-least : (f : Encounter V → Bool) (e x : Encounter V) (b : Bool) (y : Encounter V) → whole e ≡ true → x ≡ least e → Ended m c f (from x) (least x) b y → Ended m c f (from_starts m c e) (least e) b y
  from-least f e x b y w is h =
      subst (λ es. Ended m c f es (least e) b y) (ap from is ∙ all_left e w)
      (subst (λ l. Ended m c f (from x) l b y) (ap least is ∙ reset-reset m law r c ok (places c) (separate 0 c.quantities) e) h)

-- By the marks, from an encounter e that has the values of lent but for needed ones.
module _ {V C R : Type 0} (m : Meaning V C) (law : Lawful m) (r : Results R) (c : Contents V C R) (ok : Acceptable m r c) (f : Encounter V → Bool) (lent e : Encounter V) (w : whole lent ≡ true) (v : whole e ≡ true)
    (same : reset m c (places c) e ≡ reset m c (places c) lent) where
  pub marks_hit : {b : Bool} {x : Encounter V} → EarliestFound m c f e b x → b ≡ true → Ended m c f (from_starts m c lent) (reset m c (places c) lent) true x
  marks_hit {b} {x} h there =
      let starts = same-starts m law r c ok lent e w v same in
      let is : first_of f (from_starts m c lent) ≡ Some x = ap (first_of f) (sym starts) ∙ ended_some (first_of f (from_starts m c e)) b x e h.told h.shows there in
      record { told = sym (ap is_some is); shows = sym (ap (λ o. unwrap_or o (reset m c (places c) lent)) is); others = h.others ∙ same; lengths = h.lengths }

  pub marks_over : {b : Bool} {x y : Encounter V} → EarliestFound m c f e b x → b ≡ false → y ≡ reset m c (places c) x → Ended m c f (from_starts m c lent) (reset m c (places c) lent) false y
  marks_over {b} {x} {y} h gone is =
      let starts = same-starts m law r c ok lent e w v same in
      let none : first_of f (from_starts m c lent) ≡ None = ap (first_of f) (sym starts) ∙ (ended-none (first_of f (from_starts m c e)) b x e h.told h.shows gone).0 in
      let least : y ≡ reset m c (places c) lent = is ∙ h.others ∙ same in
      record {
        told = sym (ap is_some none);
        shows = least ∙ sym (ap (λ o. unwrap_or o (reset m c (places c) lent)) none);
        others = ap (reset m c (places c)) least ∙ reset-reset m law r c ok (places c) (separate 0 c.quantities) lent;
        lengths = ap whole is ∙ reset-whole m c (places c) x h.lengths;
      }
