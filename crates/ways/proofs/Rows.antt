-- What the rows that read one more quantity add to what an encounter meets. Assumes nothing.
use Rattle.std.proofs.Common.{◌≡◌, ℕ, suc, ◌+◌, ◌-◌, ◌<◌, Bool, true, false, cond, ◌&&◌, ◌||◌, eqb, ltb, List, [], ◌∷◌, Some, None, sym, refl, ap, ◌∙◌, ap₂, subst, inl, inr, arith, nat_lt}
use Rattle.std.specs.List.{slice_get, AllByRecursion}
use Rattle.std.proofs.lemmas.Bool.{cond-true, cond-false, cases_lt, cases_order, eq-eqb, ne_eqb, lt-ltb, le-ltb, false≢true}
use Rattle.kinds.specs.Meaning.{Meaning}
use Rattle.items.specs.declared.Scope.{Scope}
use Rattle.items.specs.declared.Scope.TheVariants.{Flight, Pair as OfBoth}
use Rattle.items.specs.declared.Side.{Side}
use Rattle.items.specs.declared.Side.TheVariants.{OfA, OfB, OfPair}
use Rattle.items.specs.declared.Mode.{Mode}
use Rattle.items.specs.declared.Mode.TheVariants.{A, B, Both, Either, Pair}
use Rattle.items.specs.declared.Quantity.{Quantity}
use Rattle.items.specs.declared.Row.{Row}
use Rattle.items.specs.declared.Entry.{Entry}
use Rattle.items.specs.declared.Entry.TheVariants.{Any, Cell}
use Rattle.tables.specs.Contents.{Encounter, value_at}
use Rattle.tables.specs.Acceptance.{mode_fits, mode_lawful, row_lawful}
use Rattle.tables.specs.Outcomes.{holds_for, test, entry_holds, met}
use Rattle.sets.specs.Sets.{met_where}
use Rattle.sets.specs.Marks.{reads_a, reads_b, is_either, held, all_held, each_held}
use Rattle.ways.proofs.Bits.{joined}

-- a and b are A's value of quantity i and B's, or both the pair's
abbrev pub Stands : {V : Type 0} → Scope → ℕ → V → V → Encounter V → Type 0
Stands Flight i a b e = (value_at e OfA i ≡ Some a) × (value_at e OfB i ≡ Some b)
Stands OfBoth i a b e = (value_at e OfPair i ≡ Some a) × (value_at e OfPair i ≡ Some b)

-- s has the values of e for the quantities below i
abbrev pub SameBelow : {V : Type 0} → ℕ → Encounter V → Encounter V → Type 0
SameBelow i e s = (t : Side) (j : ℕ) → j < i → value_at s t j ≡ value_at e t j

-- does an entry hold in a mode, where it holds for A's value as ha says and for B's as hb says
abbrev said : Mode → Bool → Bool → Bool
said A ha hb = ha
said B ha hb = hb
said Both ha hb = ha && hb
said Either ha hb = ha || hb
said Pair ha hb = ha && hb

both-same : (p q r : Bool) → p ≡ q → p ≡ r → p ≡ (q && r)
both-same p q r x y = twice p ∙ ap₂ ◌&&◌ x y
  where
    twice : (p : Bool) → p ≡ (p && p)
    twice true = refl
    twice false = refl

module _ {V C : Type 0} (m : Meaning V C) where
  test-same : (e s : Encounter V) (x : C) (j : ℕ) → ((t : Side) → value_at s t j ≡ value_at e t j) → (k : Mode) → test m k x j s ≡ test m k x j e
  test-same e s x j h A = ap (holds_for m x) (h OfA)
  test-same e s x j h B = ap (holds_for m x) (h OfB)
  test-same e s x j h Both = ap₂ ◌&&◌ (ap (holds_for m x) (h OfA)) (ap (holds_for m x) (h OfB))
  test-same e s x j h Either = ap₂ ◌||◌ (ap (holds_for m x) (h OfA)) (ap (holds_for m x) (h OfB))
  test-same e s x j h Pair = ap (holds_for m x) (h OfPair)

  entry-same : (e s : Encounter V) (w : Row) (x : Entry C) → ((t : Side) → value_at s t w.quantity ≡ value_at e t w.quantity) → entry_holds m w x s ≡ entry_holds m w x e
  entry-same e s w Any h = refl
  entry-same e s w (Cell x) h = test-same e s x w.quantity h w.mode

  test-said : (e : Encounter V) (x : C) (j : ℕ) (a b : V) (k : Mode) (sc : Scope) → mode_fits k sc ≡ true → Stands sc j a b e → test m k x j e ≡ said k (m.holds x a) (m.holds x b)
  test-said e x j a b A Flight f h = ap (holds_for m x) h.0
  test-said e x j a b A OfBoth f h = absurd (false≢true f)
  test-said e x j a b B Flight f h = ap (holds_for m x) h.1
  test-said e x j a b B OfBoth f h = absurd (false≢true f)
  test-said e x j a b Both Flight f h = ap₂ ◌&&◌ (ap (holds_for m x) h.0) (ap (holds_for m x) h.1)
  test-said e x j a b Both OfBoth f h = absurd (false≢true f)
  test-said e x j a b Either Flight f h = ap₂ ◌||◌ (ap (holds_for m x) h.0) (ap (holds_for m x) h.1)
  test-said e x j a b Either OfBoth f h = absurd (false≢true f)
  test-said e x j a b Pair Flight f h = absurd (false≢true f)
  test-said e x j a b Pair OfBoth f h = both-same (holds_for m x (value_at e OfPair j)) (m.holds x a) (m.holds x b) (ap (holds_for m x) h.0) (ap (holds_for m x) h.1)

  said-any : (k : Mode) → true ≡ said k true true
  said-any A = refl
  said-any B = refl
  said-any Both = refl
  said-any Either = refl
  said-any Pair = refl

  entry-said : (e : Encounter V) (w : Row) (x : Entry C) (a b : V) (sc : Scope) → mode_fits w.mode sc ≡ true → Stands sc w.quantity a b e → entry_holds m w x e ≡ said w.mode (held m x a) (held m x b)
  entry-said e w Any a b sc f h = said-any w.mode
  entry-said e w (Cell x) a b sc f h = test-said e x w.quantity a b w.mode sc f h

-- one row's share, where its quantity is a lower one
row-below : (h p a b j : Bool) → (h && (((p && a) && b) && j)) ≡ ((((h && p) && a) && b) && j)
row-below true p a b j = refl
row-below false p a b j = refl

a-holds : (h p a b j : Bool) → (h && (((p && a) && b) && j)) ≡ (((p && (h && a)) && b) && j)
a-holds true p a b j = refl
a-holds false true a b j = refl
a-holds false false a b j = refl

b-holds : (h p a b j : Bool) → (h && (((p && a) && b) && j)) ≡ (((p && a) && (h && b)) && j)
b-holds true p a b j = refl
b-holds false true true b j = refl
b-holds false true false b j = refl
b-holds false false a b j = refl

both-hold : (h g p a b j : Bool) → ((h && g) && (((p && a) && b) && j)) ≡ (((p && (h && a)) && (g && b)) && j)
both-hold true g p a b j = b-holds g p a b j
both-hold false g true a b j = refl
both-hold false g false a b j = refl

one-holds : (h p a b j : Bool) → (h && (((p && a) && b) && j)) ≡ (((p && a) && b) && (h && j))
one-holds true p a b j = refl
one-holds false true true true j = refl
one-holds false true true false j = refl
one-holds false true false b j = refl
one-holds false false a b j = refl

-- and where it is the one that is added
row-at : (k : Mode) (h g p a b : Bool) (us vs : List Bool)
    → (said k h g && (((p && a) && b) && joined us vs)) ≡ (((p && cond (reads_a k) (h && a) a) && cond (reads_b k) (g && b) b) && joined (cond (is_either k) (h ∷ us) us) (cond (is_either k) (g ∷ vs) vs))
row-at A h g p a b us vs = a-holds h p a b (joined us vs)
row-at B h g p a b us vs = b-holds g p a b (joined us vs)
row-at Both h g p a b us vs = both-hold h g p a b (joined us vs)
row-at Either h g p a b us vs = one-holds (h || g) p a b (joined us vs)
row-at Pair h g p a b us vs = both-hold h g p a b (joined us vs)

module _ {V C : Type 0} (m : Meaning V C) (qs : List (Quantity V)) where
  fits : (w : Row) (i : ℕ) (q : Quantity V) → w.quantity ≡ i → slice_get qs i ≡ Some q → row_lawful m qs w ≡ true → mode_fits w.mode q.scope ≡ true
  fits w i q h n l = sym (ap (mode_lawful m w.mode) (ap (slice_get qs) h ∙ n)) ∙ l

  -- what the rows below quantity i and those that read it come to, its values being a and b
  abbrev pub upto : ℕ → V → V → List Row → List (Entry C) → Encounter V → Bool
  upto i a b ws xs e = ((met_where m (λ j. nat_lt j i) ws xs e && all_held m reads_a i a ws xs) && all_held m reads_b i b ws xs) && joined (each_held m i a ws xs) (each_held m i b ws xs)

  pub met-next : (i : ℕ) (q : Quantity V) (a b : V) (e s : Encounter V) → slice_get qs i ≡ Some q → SameBelow i e s → Stands q.scope i a b s → (ws : List Row) (xs : List (Entry C)) → AllByRecursion (λ w. row_lawful m qs w ≡ true) ws
      → met_where m (λ j. nat_lt j (suc i)) ws xs s ≡ upto i a b ws xs e
  met-next i q a b e s n same st [] xs l = refl
  met-next i q a b e s n same st (w ∷ ws) [] l = refl
  met-next i q a b e s n same st (w ∷ ws) (x ∷ xs) l =
      let ih = met-next i q a b e s n same st ws xs l.1 in
      let p = met_where m (λ j. nat_lt j i) ws xs e in
      let pa = all_held m reads_a i a ws xs in
      let pb = all_held m reads_b i b ws xs in
      let us = each_held m i a ws xs in
      let vs = each_held m i b ws xs in
      elim (cases_order w.quantity i) [
        | inl h ↦
            let z : ltb w.quantity (suc i) ≡ true = lt-ltb w.quantity (suc i) (omega arith) in
            let v : ltb w.quantity i ≡ false = le-ltb w.quantity i (omega arith) in
            let u : eqb w.quantity i ≡ true = eq-eqb w.quantity i h in
            let here = entry-said m s w x a b q.scope (fits w i q h n l.0) (subst (λ j. Stands q.scope j a b s) (sym h) st) in
            rw (z, v, u) (ap₂ ◌&&◌ here ih ∙ row-at w.mode (held m x a) (held m x b) p pa pb us vs)
        | inr (inl h) ↦
            let z : ltb w.quantity (suc i) ≡ true = lt-ltb w.quantity (suc i) (omega arith) in
            let v : ltb w.quantity i ≡ true = lt-ltb w.quantity i h in
            let u : eqb w.quantity i ≡ false = ne_eqb w.quantity i (λ y. omega arith) in
            rw (z, v, u) (ap₂ ◌&&◌ (entry-same m e s w x (λ t. same t w.quantity h)) ih ∙ row-below (entry_holds m w x e) p pa pb (joined us vs))
        | inr (inr h) ↦
            let z : ltb w.quantity (suc i) ≡ false = le-ltb w.quantity (suc i) (omega arith) in
            let v : ltb w.quantity i ≡ false = le-ltb w.quantity i (omega arith) in
            let u : eqb w.quantity i ≡ false = ne_eqb w.quantity i (λ y. omega arith) in
            rw (z, v, u) ih
      ]

  -- no row reads a quantity below the first
  pub met_none : (ws : List Row) (xs : List (Entry C)) (e : Encounter V) → met_where m (λ j. nat_lt j 0) ws xs e ≡ true
  met_none [] xs e = refl
  met_none (w ∷ ws) [] e = refl
  met_none (w ∷ ws) (x ∷ xs) e = let rest = met_where m (λ j. nat_lt j 0) ws xs e in cond-false (ltb w.quantity 0) (entry_holds m w x e && rest) rest (le-ltb w.quantity 0 (omega arith)) ∙ met_none ws xs e

  known : (i : ℕ) → ((j : ℕ) → slice_get qs (i + j) ≡ None) → (w : Row) → row_lawful m qs w ≡ true → w.quantity < i
  known i h w l = elim (cases_lt w.quantity i) [
    | inl y ↦ y
    | inr y ↦
        let at : i + (w.quantity - i) ≡ w.quantity = omega arith in
        absurd (false≢true (sym (ap (mode_lawful m w.mode) (ap (slice_get qs) (sym at) ∙ h (w.quantity - i))) ∙ l))
  ]

  -- each row reads one of the quantities below i where there is none from i on
  pub met_all : (i : ℕ) → ((j : ℕ) → slice_get qs (i + j) ≡ None) → (ws : List Row) (xs : List (Entry C)) (e : Encounter V) → AllByRecursion (λ w. row_lawful m qs w ≡ true) ws → met_where m (λ j. nat_lt j i) ws xs e ≡ met m ws xs e
  met_all i h [] xs e l = refl
  met_all i h (w ∷ ws) [] e l = refl
  met_all i h (w ∷ ws) (x ∷ xs) e l =
      let rest = met_where m (λ j. nat_lt j i) ws xs e in
      cond-true (ltb w.quantity i) (entry_holds m w x e && rest) rest (lt-ltb w.quantity i (known i h w l.0)) ∙ ap (λ b. entry_holds m w x e && b) (met_all i h ws xs e l.1)
