-- Two encounters that every cell reads alike have the same outcome. Assumes nothing.
use Rattle.std.proofs.Common.{◌≡◌, ℕ, suc, true, cond, ◌&&◌, ◌||◌, eqb, List, [], ◌∷◌, Some, None, Option, sym, refl, ap, ◌∙◌, subst, ap₂}
use Rattle.std.specs.List.{slice_get, AllByRecursion}
use Rattle.std.proofs.ByRecursion.{All-append, All-weaker}
use Rattle.std.proofs.lemmas.Bool.{cond_both, eqb-true, eq-eqb, false≢true}
use Rattle.kinds.specs.Meaning.{Meaning}
use Rattle.items.specs.declared.Scope.{Scope}
use Rattle.items.specs.declared.Scope.TheVariants.{Flight, Pair as OfBoth}
use Rattle.items.specs.declared.Side.{Side}
use Rattle.items.specs.declared.Mode.{Mode}
use Rattle.items.specs.declared.Mode.TheVariants.{A, B, Both, Either, Pair}
use Rattle.items.specs.declared.Quantity.{Quantity}
use Rattle.items.specs.declared.Row.{Row}
use Rattle.items.specs.declared.Entry.{Entry}
use Rattle.items.specs.declared.Entry.TheVariants.{Any, Cell}
use Rattle.tables.specs.Words.{each}
use Rattle.results.specs.Results.{Results}
use Rattle.tables.specs.Contents.{Contents, Column, Encounter, sides, value_at}
use Rattle.tables.specs.Acceptance.{Acceptable, mode_fits, mode_lawful, cell_lawful, row_lawful, EntriesLawful}
use Rattle.tables.specs.Outcomes.{barred, holds_for, test, met, some_met, columns_met, judged, outcome}
use Rattle.tables.specs.Starts.{reading, cells_of}
use Rattle.tables.proofs.Lists.{all_split, all-each}

module _ {V C : Type 0} (m : Meaning V C) (qs : List (Quantity V)) where
  -- lawful cells, by the quantity that they read
  reading-fits : (i : ℕ) (q : Quantity V) → slice_get qs i ≡ Some q → (ws : List Row) (xs : List (Entry C)) → EntriesLawful m qs ws xs → AllByRecursion (λ x. m.fits x q.least q.greatest ≡ true) (reading i ws xs)
  reading-fits i q e [] xs h = tt
  reading-fits i q e (w ∷ ws) [] h = tt
  reading-fits i q e (w ∷ ws) (Any ∷ xs) h = reading-fits i q e ws xs h.1
  reading-fits i q e (w ∷ ws) (Cell x ∷ xs) h =
      cond_both (eqb w.quantity i) (x ∷ reading i ws xs) (reading i ws xs) (AllByRecursion (λ x. m.fits x q.least q.greatest ≡ true))
      (λ t. (sym (ap (cell_lawful m x) (ap (slice_get qs) (eqb-true w.quantity i t) ∙ e)) ∙ h.0, reading-fits i q e ws xs h.1))
      (λ _. reading-fits i q e ws xs h.1)

  module _ (e s : Encounter V) where
    -- the cells f i of quantity i read the two alike, on every side
    abbrev pub Alike : (ℕ → List C) → Type 0
    Alike f = (i : ℕ) (q : Quantity V) → slice_get qs i ≡ Some q → AllByRecursion (λ t. AllByRecursion (λ x. holds_for m x (value_at s t i) ≡ holds_for m x (value_at e t i)) (f i)) (sides q.scope)

    narrow : (f g : ℕ → List C) → ((i : ℕ) (P : C → Type 0) → AllByRecursion P (f i) → AllByRecursion P (g i)) → Alike f → Alike g
    narrow f g sub h i q n =
        let P : Side → C → Type 0 = λ t x. holds_for m x (value_at s t i) ≡ holds_for m x (value_at e t i) in
        All-weaker (λ t. AllByRecursion (P t) (f i)) (λ t. AllByRecursion (P t) (g i)) (λ t k. sub i (P t) k) (sides q.scope) (h i q n)

    test-same : (i : ℕ) (x : C) (k : Mode) (c : Scope) → mode_fits k c ≡ true → AllByRecursion (λ t. holds_for m x (value_at s t i) ≡ holds_for m x (value_at e t i)) (sides c) → test m k x i s ≡ test m k x i e
    test-same i x A Flight f h = h.0
    test-same i x A OfBoth f h = absurd (false≢true f)
    test-same i x B Flight f h = h.1.0
    test-same i x B OfBoth f h = absurd (false≢true f)
    test-same i x Both Flight f h = ap₂ ◌&&◌ h.0 h.1.0
    test-same i x Both OfBoth f h = absurd (false≢true f)
    test-same i x Either Flight f h = ap₂ ◌||◌ h.0 h.1.0
    test-same i x Either OfBoth f h = absurd (false≢true f)
    test-same i x Pair Flight f h = absurd (false≢true f)
    test-same i x Pair OfBoth f h = h.0

    row_same : (i : ℕ) (x : C) (k : Mode) (o : Option (Quantity V)) → slice_get qs i ≡ o → mode_lawful m k o ≡ true → (f : ℕ → List C) → Alike f → ((P : C → Type 0) → AllByRecursion P (f i) → P x) → test m k x i s ≡ test m k x i e
    row_same i x k None n l f h has = absurd (false≢true l)
    row_same i x k (Some q) n l f h has =
        let P : Side → C → Type 0 = λ t x. holds_for m x (value_at s t i) ≡ holds_for m x (value_at e t i) in
        test-same i x k q.scope l (All-weaker (λ t. AllByRecursion (P t) (f i)) (λ t. P t x) (λ t. has (P t)) (sides q.scope) (h i q n))

    met-same : (ws : List Row) (xs : List (Entry C)) → AllByRecursion (λ w. row_lawful m qs w ≡ true) ws → Alike (λ i. reading i ws xs) → met m ws xs s ≡ met m ws xs e
    met-same [] xs l h = refl
    met-same (w ∷ ws) [] l h = refl
    met-same (w ∷ ws) (Any ∷ xs) l h = met-same ws xs l.1 h
    met-same (w ∷ ws) (Cell x ∷ xs) l h =
        ap₂ ◌&&◌
        (row_same w.quantity x w.mode (slice_get qs w.quantity) refl l.0 (λ i. reading i (w ∷ ws) (Cell x ∷ xs)) h
        (λ P k. (subst (λ b. AllByRecursion P (cond b (x ∷ reading w.quantity ws xs) (reading w.quantity ws xs))) (eq-eqb w.quantity w.quantity refl) k).0))
        (met-same ws xs l.1 (narrow (λ i. reading i (w ∷ ws) (Cell x ∷ xs)) (λ i. reading i ws xs)
        (λ i P. cond_both (eqb w.quantity i) (x ∷ reading i ws xs) (reading i ws xs) (λ ys. AllByRecursion P ys → AllByRecursion P (reading i ws xs)) (λ _ k. k.1) (λ _ k. k)) h))

    all-met : {X : Type 0} (f : X → List (Entry C)) (ws : List Row) → AllByRecursion (λ w. row_lawful m qs w ≡ true) ws → (ks : List X) → Alike (λ i. each ks (λ k. reading i ws (f k))) → AllByRecursion (λ k. met m ws (f k) s ≡ met m ws (f k) e) ks
    all-met f ws l [] h = tt
    all-met f ws l (k ∷ ks) h = (
      met-same ws (f k) l (narrow (λ i. each (k ∷ ks) (λ y. reading i ws (f y))) (λ i. reading i ws (f k)) (λ i P a. (all_split P (reading i ws (f k)) (each ks (λ y. reading i ws (f y))) a).0) h),
      all-met f ws l ks (narrow (λ i. each (k ∷ ks) (λ y. reading i ws (f y))) (λ i. each ks (λ y. reading i ws (f y))) (λ i P a. (all_split P (reading i ws (f k)) (each ks (λ y. reading i ws (f y))) a).1) h),
    )

    some-same-met : (ws : List Row) (ns : List (List (Entry C))) → AllByRecursion (λ n. met m ws n s ≡ met m ws n e) ns → some_met m ws ns s ≡ some_met m ws ns e
    some-same-met ws [] h = refl
    some-same-met ws (n ∷ ns) h = ap₂ ◌||◌ h.0 (some-same-met ws ns h.1)

    columns-same : {R : Type 0} (k : ℕ) (ws : List Row) (xs : List (Column C R)) → AllByRecursion (λ x. met m ws x.entries s ≡ met m ws x.entries e) xs → columns_met m k ws xs s ≡ columns_met m k ws xs e
    columns-same k ws [] h = refl
    columns-same k ws (x ∷ xs) h = ap₂ (λ b ys. cond b ((k, x.result) ∷ ys) ys) h.0 (columns-same (suc k) ws xs h.1)

module _ {V C R : Type 0} (m : Meaning V C) (r : Results R) (c : Contents V C R) (ok : Acceptable m r c) where
  pub cells_fit : (i : ℕ) (q : Quantity V) → slice_get c.quantities i ≡ Some q → AllByRecursion (λ x. m.fits x q.least q.greatest ≡ true) (cells_of c i)
  cells_fit i q e =
      let Fits : C → Type 0 = λ x. m.fits x q.least q.greatest ≡ true in
      let qs = c.quantities in
      let ws = c.rows in
      All-append Fits (each c.columns (λ k. reading i ws k.entries)) (each c.nevers (reading i ws))
      (all-each Fits (λ k. reading i ws k.entries) c.columns (All-weaker (λ k. EntriesLawful m qs ws k.entries × (r.lawful k.result ≡ true)) (λ k. AllByRecursion Fits (reading i ws k.entries)) (λ k h. reading-fits m qs i q e ws k.entries h.0) c.columns ok.columns.1))
      (all-each Fits (reading i ws) c.nevers (All-weaker (EntriesLawful m qs ws) (λ n. AllByRecursion Fits (reading i ws n)) (reading-fits m qs i q e ws) c.nevers ok.nevers.1))

  pub outcome-same : (e s : Encounter V) → Alike m c.quantities e s (cells_of c) → outcome m r c s ≡ outcome m r c e
  outcome-same e s h =
      let qs = c.quantities in
      let ws = c.rows in
      let ks : AllByRecursion (λ k. met m ws k.entries s ≡ met m ws k.entries e) c.columns = all-met m qs e s (λ k. k.entries) ws ok.rows.1 c.columns (narrow m qs e s (cells_of c) (λ i. each c.columns (λ k. reading i ws k.entries)) (λ i P a. (all_split P (each c.columns (λ k. reading i ws k.entries)) (each c.nevers (reading i ws)) a).0) h) in
      let ns : AllByRecursion (λ n. met m ws n s ≡ met m ws n e) c.nevers = all-met m qs e s (λ n. n) ws ok.rows.1 c.nevers (narrow m qs e s (cells_of c) (λ i. each c.nevers (reading i ws)) (λ i P a. (all_split P (each c.columns (λ k. reading i ws k.entries)) (each c.nevers (reading i ws)) a).1) h) in
      ap₂ (λ b ks. cond b barred (judged r c.default ks)) (some-same-met m qs e s ws c.nevers ns) (columns-same m qs e s 0 ws c.columns ks)
