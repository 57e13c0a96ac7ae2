-- Each edit changes its item and nothing else. Assumes nothing.
use Rattle.std.proofs.Common.{◌≡◌, ℕ, zero, suc, ◌+◌, ◌-◌, ◌<◌, true, ltb, List, [], ◌∷◌, ◌++◌, map, length, take, set, Some, sym, refl, ap, ◌∙◌, subst, arith}
use Rattle.std.specs.List.{slice_get, AllByRecursion}
use Rattle.std.proofs.lemmas.List.{length-map}
use Rattle.std.proofs.lemmas.Bool.{cond-true, cond-false, lt-ltb, le-ltb, ltb-true}
use Rattle.kinds.specs.Meaning.{Meaning}
use Rattle.results.specs.Results.{Results}
use Rattle.items.specs.declared.Row.{Row}
use Rattle.items.specs.declared.Entry.{Entry}
use Rattle.items.specs.declared.Entry.TheVariants.{Any}
use Rattle.tables.specs.Words.{changed}
use Rattle.tables.specs.Contents.{Contents}
use Rattle.tables.specs.Calls.{Edit, name_quantity, add_row, add_column, add_never, set_cell, set_default, clear_default, strike_column, strike_never, asked, any_of, with_entries, with_columns, with_nevers, edited, unless_refused}
use Rattle.tables.specs.Edits.{EachBecomes, OneBecomes, LastGone, AnyInEach, SetInColumn, SetInNever, Changes, draft_of, EditedRightly}
use Rattle.tables.proofs.Lists.{none-some, some_same, changed-length}
use Rattle.tables.proofs.Storing.{no-refusal, set-changed}

module _ {X : Type 0} (P : X → X → Type 0) (f : X → X) (by : (x : X) → P x (f x)) where
  becomes : (x y z : X) → f x ≡ y → x ≡ z → P z y
  becomes x y z p q = subst (λ z. P z y) q (subst (P x) p (by x))

  each_map : (xs : List X) → EachBecomes P xs (map f xs)
  each_map xs = record { many = length-map xs f; each = at xs }
    where
      at : (xs : List X) (i : ℕ) (x y : X) → slice_get xs i ≡ Some x → slice_get (map f xs) i ≡ Some y → P x y
      at [] i x y p q = none-some x p
      at (z ∷ xs) zero x y p q = becomes z y x (some_same (f z) y q) (some_same z x p)
      at (z ∷ xs) (suc i) x y p q = at xs i x y p q

  one-changed : (i : ℕ) (xs : List X) → OneBecomes i P xs (changed i f xs)
  one-changed i xs = record { many = changed-length i f xs; here = at i xs; others = off i xs }
    where
      at : (i : ℕ) (xs : List X) (x y : X) → slice_get xs i ≡ Some x → slice_get (changed i f xs) i ≡ Some y → P x y
      at i [] x y p q = none-some x p
      at zero (z ∷ xs) x y p q = becomes z y x (some_same (f z) y q) (some_same z x p)
      at (suc i) (z ∷ xs) x y p q = at i xs x y p q

      off : (i : ℕ) (xs : List X) (j : ℕ) → (j ≡ i → ⊥) → slice_get (changed i f xs) j ≡ slice_get xs j
      off i [] j d = refl
      off zero (x ∷ xs) zero d = absurd (d refl)
      off zero (x ∷ xs) (suc j) d = refl
      off (suc i) (x ∷ xs) zero d = refl
      off (suc i) (x ∷ xs) (suc j) d = off i xs j (λ e. d (ap suc e))

one_set : {X : Type 0} (i : ℕ) (x : X) (xs : List X) → OneBecomes i (λ _ y. y ≡ x) xs (set xs i x)
one_set i x xs = subst (OneBecomes i (λ _ y. y ≡ x) xs) (set-changed xs i x) (one-changed (λ _ y. y ≡ x) (λ _. x) (λ _. refl) i xs)

last-gone : {X : Type 0} (xs : List X) → 0 < length xs → LastGone xs (take (length xs - 1) xs)
last-gone [] h = absurd (omega arith)
last-gone (x ∷ []) h = (x, refl)
last-gone (x ∷ (y ∷ xs)) h =
    let t = last-gone (y ∷ xs) (omega arith) in
    let k : length (x ∷ (y ∷ xs)) - 1 ≡ suc (length (y ∷ xs) - 1) = omega arith in
    (t.0, ap (λ ys. x ∷ ys) t.1 ∙ ap (λ n. take n (x ∷ (y ∷ xs)) ++ (t.0 ∷ [])) (sym k))

any-in-each : (C : Type 0) (ws : List Row) → AnyInEach {C = C} ws (any_of ws)
any-in-each C ws = (length-map ws (λ w. Any), all ws)
  where
    all : (ws : List Row) → AllByRecursion (λ x. x ≡ Any) (any_of {C = C} ws)
    all [] = tt
    all (w ∷ ws) = (refl, all ws)

module _ {V C R : Type 0} (m : Meaning V C) (r : Results R) (c : Contents V C R) where
  set-in-column : (i j : ℕ) (x : Entry C) → j < 16 → SetInColumn i j x c (edited (set_cell i j x) c)
  set-in-column i j x l =
      subst (SetInColumn i j x c) (sym (cond-true (ltb j 16) (with_columns c (changed j (with_entries (λ xs. set xs i x)) c.columns)) (with_nevers c (changed (j - 16) (λ xs. set xs i x) c.nevers)) (lt-ltb j 16 l))) (
        one-changed (λ k l. (l.result ≡ k.result) × OneBecomes i (λ _ y. y ≡ x) k.entries l.entries) (with_entries (λ xs. set xs i x)) (λ k. (refl, one_set i x k.entries)) j c.columns,
        record { quantities = refl; rows = refl; nevers = refl; default = refl },
      )

  set-in-never : (i j : ℕ) (x : Entry C) (n : ℕ) → j ≡ 16 + n → SetInNever i n x c (edited (set_cell i j x) c)
  set-in-never i j x n e =
      let k : j - 16 ≡ n = omega arith in
      subst (SetInNever i n x c) (sym (cond-false (ltb j 16) (with_columns c (changed j (with_entries (λ xs. set xs i x)) c.columns)) (with_nevers c (changed (j - 16) (λ xs. set xs i x) c.nevers)) (le-ltb j 16 (omega arith)))) (
        subst (λ t. OneBecomes t (OneBecomes i (λ _ y. y ≡ x)) c.nevers (changed (j - 16) (λ xs. set xs i x) c.nevers)) k (one-changed (OneBecomes i (λ _ y. y ≡ x)) (λ xs. set xs i x) (one_set i x) (j - 16) c.nevers),
        record { quantities = refl; rows = refl; columns = refl; default = refl },
      )

  changes : (k : Edit V C R) → AllByRecursion (λ q. q.0 ≡ true) (asked m r k c) → Changes k c (edited k c)
  changes (name_quantity q) y = (refl, record { rows = refl; columns = refl; nevers = refl; default = refl })
  changes (add_row w) y = (
    refl,
    each_map (λ k l. (l.result ≡ k.result) × (l.entries ≡ k.entries ++ (Any ∷ []))) (with_entries (λ xs. xs ++ (Any ∷ []))) (λ k. (refl, refl)) c.columns,
    each_map (λ n l. l ≡ n ++ (Any ∷ [])) (λ xs. xs ++ (Any ∷ [])) (λ n. refl) c.nevers,
    record { quantities = refl; default = refl },
  )
  changes (add_column x) y = (record { entries = any_of c.rows; result = x }, refl, refl, any-in-each C c.rows, record { quantities = refl; rows = refl; nevers = refl; default = refl })
  changes add_never y = (any_of c.rows, refl, any-in-each C c.rows, record { quantities = refl; rows = refl; columns = refl; default = refl })
  changes (set_cell i j x) y = (set-in-column i j x, set-in-never i j x)
  changes (set_default x) y = (refl, record { quantities = refl; rows = refl; columns = refl; nevers = refl })
  changes clear_default y = (refl, record { quantities = refl; rows = refl; columns = refl; nevers = refl })
  changes strike_column y = (last-gone c.columns (ltb-true 0 (length c.columns) y.0), record { quantities = refl; rows = refl; nevers = refl; default = refl })
  changes strike_never y = (last-gone c.nevers (ltb-true 0 (length c.nevers) y.0), record { quantities = refl; rows = refl; columns = refl; default = refl })

  pub edited-rightly : (k : Edit V C R) → EditedRightly m r k c
  edited-rightly k = record {
    accepted = λ e. (edited k c, (ap (λ o. draft_of (unless_refused m r o (edited k c) c)) e, changes k (no-refusal (asked m r k c) e)));
    refused = λ f e. ap (λ o. draft_of (unless_refused m r o (edited k c) c)) e;
  }
