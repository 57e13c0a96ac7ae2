-- How five counts and four lists hold the contents of a sheet, and what each edit writes. Assumes nothing.
use Rattle.std.specs.Prelude.{◌≡◌, ℕ, suc, ◌+◌, ◌-◌, ◌*◌, ◌≤◌, Bool, true, false, cond, ◌&&◌, List, [], ◌∷◌, map, length, take, Some, None, Option, ◌==◌, slice_index_or, slice_set}
use Rattle.std.specs.List.{slice_get, range_with_len}
use Rattle.items.specs.declared.Counts.{Counts}
use Rattle.items.specs.declared.Quantity.{Quantity}
use Rattle.items.specs.declared.Row.{Row}
use Rattle.items.specs.declared.Entry.{Entry}
use Rattle.items.specs.declared.Entry.TheVariants.{Any}
use Rattle.faults.specs.declared.SheetFault.{SheetFault}
use Rattle.kinds.specs.Meaning.{Meaning}
use Rattle.results.specs.Results.{Results}
use Rattle.tables.specs.Contents.{Contents, Column}
use Rattle.tables.specs.Acceptance.{acceptable}
use Rattle.tables.specs.Calls.{Edit, name_quantity, add_row, add_column, add_never, set_cell, set_default, clear_default, strike_column, strike_never, Call, edit, try_issue, look_up, withdraw, Status, draft, issued, first_no, asked}
use Rattle.tables.specs.Issues.{issue, refused}

pub record Lists (V C R : Type 0) : Type 0 where
  pub quantities : List (Quantity V)
  pub rows : List Row
  pub entries : List (Entry C)
  pub results : List R

pub record Bounded (n : Counts) : Type 0 where
  pub quantities : n.quantities ≤ 16
  pub rows : n.rows ≤ 16
  pub columns : n.columns ≤ 16
  pub nevers : n.nevers ≤ 8

pub record RightLengths {V C R : Type 0} (l : Lists V C R) : Type 0 where
  pub quantities : length l.quantities ≡ 16
  pub rows : length l.rows ≡ 16
  pub entries : length l.entries ≡ 384
  pub results : length l.results ≡ 17

-- the same as a test
abbrev pub right_lengths : {V C R : Type 0} → Lists V C R → Bool
right_lengths l = length l.quantities == 16 && (length l.rows == 16 && (length l.entries == 384 && length l.results == 17))

-- the entries of column j (never n is column 16 + n) in the first n rows: 24 a row
abbrev pub column_of : {C : Type 0} → List (Entry C) → ℕ → ℕ → List (Entry C)
column_of es n j = map (λ i. slice_index_or es (24 * i + j) Any) (range_with_len 0 n)

abbrev pub columns_from : {C R : Type 0} → List (Entry C) → ℕ → ℕ → List R → List (Column C R)
columns_from es n j [] = []
columns_from es n j (x ∷ xs) = record { entries = column_of es n j; result = x } ∷ columns_from es n (suc j) xs

-- any at each of the places
abbrev pub wiped : {C : Type 0} → List (Entry C) → List ℕ → List (Entry C)
wiped es [] = es
wiped es (k ∷ ks) = wiped (slice_set es k Any) ks

abbrev pub row_places : ℕ → List ℕ
row_places i = map (λ j. 24 * i + j) (range_with_len 0 24)

abbrev pub column_places : ℕ → List ℕ
column_places j = map (λ i. 24 * i + j) (range_with_len 0 16)

module _ {V C R : Type 0} where
  abbrev pub contents_of : Counts → Lists V C R → Contents V C R
  contents_of n l = record {
    quantities = take n.quantities l.quantities;
    rows = take n.rows l.rows;
    columns = columns_from l.entries n.rows 0 (take n.columns l.results);
    nevers = map (λ j. column_of l.entries n.rows (16 + j)) (range_with_len 0 n.nevers);
    default = cond n.default (slice_get l.results 16) None;
  }

  -- the counts after an edit that is accepted
  abbrev pub counts_after : Edit V C R → Counts → Counts
  counts_after (name_quantity q) n = record { quantities = n.quantities + 1; rows = n.rows; columns = n.columns; nevers = n.nevers; default = n.default }
  counts_after (add_row w) n = record { quantities = n.quantities; rows = n.rows + 1; columns = n.columns; nevers = n.nevers; default = n.default }
  counts_after (add_column x) n = record { quantities = n.quantities; rows = n.rows; columns = n.columns + 1; nevers = n.nevers; default = n.default }
  counts_after add_never n = record { quantities = n.quantities; rows = n.rows; columns = n.columns; nevers = n.nevers + 1; default = n.default }
  counts_after (set_cell i j x) n = n
  counts_after (set_default x) n = record { quantities = n.quantities; rows = n.rows; columns = n.columns; nevers = n.nevers; default = true }
  counts_after clear_default n = record { quantities = n.quantities; rows = n.rows; columns = n.columns; nevers = n.nevers; default = false }
  counts_after strike_column n = record { quantities = n.quantities; rows = n.rows; columns = n.columns - 1; nevers = n.nevers; default = n.default }
  counts_after strike_never n = record { quantities = n.quantities; rows = n.rows; columns = n.columns; nevers = n.nevers - 1; default = n.default }

  abbrev pub with_stored : Lists V C R → List (Entry C) → List R → Lists V C R
  with_stored l es xs = record { quantities = l.quantities; rows = l.rows; entries = es; results = xs }

  -- the lists after it
  abbrev pub lists_after : Edit V C R → Counts → Lists V C R → Lists V C R
  lists_after (name_quantity q) n l = record { quantities = slice_set l.quantities n.quantities q; rows = l.rows; entries = l.entries; results = l.results }
  lists_after (add_row w) n l = record { quantities = l.quantities; rows = slice_set l.rows n.rows w; entries = wiped l.entries (row_places n.rows); results = l.results }
  lists_after (add_column x) n l = with_stored l (wiped l.entries (column_places n.columns)) (slice_set l.results n.columns x)
  lists_after add_never n l = with_stored l (wiped l.entries (column_places (16 + n.nevers))) l.results
  lists_after (set_cell i j x) n l = with_stored l (slice_set l.entries (24 * i + j) x) l.results
  lists_after (set_default x) n l = with_stored l l.entries (slice_set l.results 16 x)
  lists_after clear_default n l = l
  lists_after strike_column n l = l
  lists_after strike_never n l = l

-- a sheet as the program keeps it
pub record Kept (V C R : Type 0) : Type 0 where
  pub status : Status
  pub counts : Counts
  pub lists : Lists V C R

-- open: whatever the lists hold
abbrev pub opened_on : {V C R : Type 0} → Lists V C R → Kept V C R
opened_on l = record { status = draft; counts = record { quantities = 0; rows = 0; columns = 0; nevers = 0; default = false }; lists = l }

module _ {V C R : Type 0} (m : Meaning V C) (r : Results R) where
  -- the first question of every call but open: are the lists of right length, and is each entry in use one that the draft calls would accept
  abbrev pub in_order : Counts → Lists V C R → Bool
  in_order n l = right_lengths l && acceptable m r (contents_of n l)

  abbrev pub kept_unless : Option SheetFault → Edit V C R → Counts → Lists V C R → Kept V C R
  kept_unless None k n l = record { status = draft; counts = counts_after k n; lists = lists_after k n l }
  kept_unless (Some f) k n l = record { status = draft; counts = n; lists = l }

  abbrev pub kept_by : Call V C R → Status → Counts → Lists V C R → Kept V C R
  kept_by (edit k) draft n l = kept_unless (first_no (asked m r k (contents_of n l))) k n l
  kept_by (edit k) issued n l = record { status = issued; counts = n; lists = l }
  kept_by (try_issue e) draft n l = record { status = cond (refused (issue m r (contents_of n l) e)) draft issued; counts = n; lists = l }
  kept_by (try_issue e) issued n l = record { status = issued; counts = n; lists = l }
  kept_by (look_up e) s n l = record { status = s; counts = n; lists = l }
  kept_by withdraw s n l = record { status = draft; counts = n; lists = l }

  -- what calls leave of a sheet that nothing else alters
  abbrev pub kept_after : Kept V C R → List (Call V C R) → Kept V C R
  kept_after s [] = s
  kept_after s (k ∷ ks) = kept_after (kept_by k s.status s.counts s.lists) ks
