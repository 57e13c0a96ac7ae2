-- What each edit changes, and that it changes nothing else. Assumes nothing.
use Rattle.std.specs.Prelude.{◌≡◌, ℕ, ◌+◌, ◌<◌, List, [], ◌∷◌, ◌++◌, length, Some, None, ◌≢◌}
use Rattle.std.specs.List.{slice_get, AllByRecursion}
use Rattle.kinds.specs.Meaning.{Meaning}
use Rattle.faults.specs.declared.SheetFault.{SheetFault}
use Rattle.results.specs.Results.{Results}
use Rattle.items.specs.declared.Entry.{Entry}
use Rattle.items.specs.declared.Entry.TheVariants.{Any}
use Rattle.items.specs.declared.Row.{Row}
use Rattle.tables.specs.Contents.{Contents, Column}
use Rattle.tables.specs.Calls.{Edit, name_quantity, add_row, add_column, add_never, set_cell, set_default, clear_default, strike_column, strike_never, edit, draft, Sheet, first_no, asked, after}

module _ {X : Type 0} where
  -- at every place P holds of what stood there and what stands there now
  pub record EachBecomes (P : X → X → Type 0) (xs ys : List X) : Type 0 where
    pub many : length ys ≡ length xs
    pub each : (i : ℕ) (x y : X) → slice_get xs i ≡ Some x → slice_get ys i ≡ Some y → P x y

  -- at place i P holds of what stood there and what stands there now, and every other place is as it was
  pub record OneBecomes (i : ℕ) (P : X → X → Type 0) (xs ys : List X) : Type 0 where
    pub many : length ys ≡ length xs
    pub here : (x y : X) → slice_get xs i ≡ Some x → slice_get ys i ≡ Some y → P x y
    pub others : (j : ℕ) → (j ≢ i) → slice_get ys j ≡ slice_get xs j

  -- the last is gone
  abbrev pub LastGone : List X → List X → Type 0
  LastGone xs ys = (x : X) × (xs ≡ ys ++ (x ∷ []))

-- any in every row
abbrev pub AnyInEach : {C : Type 0} → List Row → List (Entry C) → Type 0
AnyInEach ws xs = (length xs ≡ length ws) × AllByRecursion (λ x. x ≡ Any) xs

module _ {V C R : Type 0} where
  -- of the contents c and d, all but these are the same
  pub record AllButQuantities (c d : Contents V C R) : Type 0 where
    pub rows : d.rows ≡ c.rows
    pub columns : d.columns ≡ c.columns
    pub nevers : d.nevers ≡ c.nevers
    pub default : d.default ≡ c.default

  pub record AllButRowsAndEntries (c d : Contents V C R) : Type 0 where
    pub quantities : d.quantities ≡ c.quantities
    pub default : d.default ≡ c.default

  pub record AllButColumns (c d : Contents V C R) : Type 0 where
    pub quantities : d.quantities ≡ c.quantities
    pub rows : d.rows ≡ c.rows
    pub nevers : d.nevers ≡ c.nevers
    pub default : d.default ≡ c.default

  pub record AllButNevers (c d : Contents V C R) : Type 0 where
    pub quantities : d.quantities ≡ c.quantities
    pub rows : d.rows ≡ c.rows
    pub columns : d.columns ≡ c.columns
    pub default : d.default ≡ c.default

  pub record AllButDefault (c d : Contents V C R) : Type 0 where
    pub quantities : d.quantities ≡ c.quantities
    pub rows : d.rows ≡ c.rows
    pub columns : d.columns ≡ c.columns
    pub nevers : d.nevers ≡ c.nevers

  -- entry i of column j is x, and the others are as they were
  abbrev pub SetInColumn : ℕ → ℕ → Entry C → Contents V C R → Contents V C R → Type 0
  SetInColumn i j x c d = OneBecomes j (λ k l. (l.result ≡ k.result) × OneBecomes i (λ _ y. y ≡ x) k.entries l.entries) c.columns d.columns × AllButColumns c d

  abbrev pub SetInNever : ℕ → ℕ → Entry C → Contents V C R → Contents V C R → Type 0
  SetInNever i n x c d = OneBecomes n (OneBecomes i (λ _ y. y ≡ x)) c.nevers d.nevers × AllButNevers c d

  -- what the edit makes of the contents c is d
  abbrev pub Changes : Edit V C R → Contents V C R → Contents V C R → Type 0
  Changes (name_quantity q) c d = (d.quantities ≡ c.quantities ++ (q ∷ [])) × AllButQuantities c d
  Changes (add_row w) c d = (d.rows ≡ c.rows ++ (w ∷ []))
      × EachBecomes (λ k l. (l.result ≡ k.result) × (l.entries ≡ k.entries ++ (Any ∷ []))) c.columns d.columns
      × EachBecomes (λ n l. l ≡ n ++ (Any ∷ [])) c.nevers d.nevers
      × AllButRowsAndEntries c d
  Changes (add_column x) c d = (k : Column C R) × (d.columns ≡ c.columns ++ (k ∷ [])) × (k.result ≡ x) × AnyInEach c.rows k.entries × AllButColumns c d
  Changes add_never c d = (n : List (Entry C)) × (d.nevers ≡ c.nevers ++ (n ∷ [])) × AnyInEach c.rows n × AllButNevers c d
  -- never n is column 16 + n
  Changes (set_cell i j x) c d = (j < 16 → SetInColumn i j x c d) × ((n : ℕ) → j ≡ 16 + n → SetInNever i n x c d)
  Changes (set_default x) c d = (d.default ≡ Some x) × AllButDefault c d
  Changes clear_default c d = (d.default ≡ None) × AllButDefault c d
  Changes strike_column c d = LastGone c.columns d.columns × AllButColumns c d
  Changes strike_never c d = LastGone c.nevers d.nevers × AllButNevers c d

  abbrev pub draft_of : Contents V C R → Sheet V C R
  draft_of c = record { status = draft; contents = c }

-- An accepted edit changes that item and nothing else; a refused one changes nothing.
pub record EditedRightly {V C R : Type 0} (m : Meaning V C) (r : Results R) (k : Edit V C R) (c : Contents V C R) : Type 0 where
  pub accepted : first_no (asked m r k c) ≡ None → (d : Contents V C R) × ((after m r (edit k) (draft_of c) ≡ draft_of d) × Changes k c d)
  pub refused : (f : SheetFault) → first_no (asked m r k c) ≡ Some f → after m r (edit k) (draft_of c) ≡ draft_of c
