-- The calls on a sheet, and what a run of them makes. Assumes nothing.
use Rattle.std.specs.Prelude.{ℕ, ◌-◌, Bool, false, cond, ◌&&◌, List, [], ◌∷◌, ◌++◌, map, length, take, Some, None, Option, nat_lt, slice_set}
use Rattle.std.specs.List.{slice_get}
use Rattle.kinds.specs.Meaning.{Meaning}
use Rattle.faults.specs.declared.KindFault.TheVariants.{Range, Cell as CellOf}
use Rattle.faults.specs.declared.SheetFault.{SheetFault}
use Rattle.faults.specs.declared.SheetFault.TheVariants.{TooManyQuantities, Kind, TooManyRows, NoSuchQuantity, WrongMode, TooManyColumns, TooManyNevers, UnlawfulResult, NoSuchPlace, NothingToStrike}
use Rattle.items.specs.declared.Quantity.{Quantity}
use Rattle.items.specs.declared.Row.{Row}
use Rattle.items.specs.declared.Entry.{Entry}
use Rattle.items.specs.declared.Entry.TheVariants.{Any}
use Rattle.tables.specs.Words.{changed}
use Rattle.results.specs.Results.{Results}
use Rattle.tables.specs.Contents.{Contents, Column, Encounter}
use Rattle.tables.specs.Acceptance.{range_lawful, row_lawful, entry_lawful}
use Rattle.tables.specs.Issues.{issue, refused}

-- the calls that alter a draft
pub data Edit (V C R : Type 0) : Type 0 where
  name_quantity : Quantity V → Edit V C R
  add_row : Row → Edit V C R
  add_column : R → Edit V C R
  add_never : Edit V C R
  -- row, column (never n is column 16 + n), entry
  set_cell : ℕ → ℕ → Entry C → Edit V C R
  set_default : R → Edit V C R
  clear_default : Edit V C R
  strike_column : Edit V C R
  strike_never : Edit V C R

pub data Call (V C R : Type 0) : Type 0 where
  edit : Edit V C R → Call V C R
  try_issue : Encounter V → Call V C R
  look_up : Encounter V → Call V C R
  withdraw : Call V C R

pub data Status : Type 0 where
  draft : Status
  issued : Status

pub record Sheet (V C R : Type 0) : Type 0 where
  pub status : Status
  pub contents : Contents V C R

-- the fault of the first question answered no
abbrev pub first_no : List (Bool × SheetFault) → Option SheetFault
first_no [] = None
first_no (q ∷ qs) = cond q.0 (first_no qs) (Some q.1)

-- any in every row
abbrev pub any_of : {C : Type 0} → List Row → List (Entry C)
any_of ws = map (λ w. Any) ws

abbrev pub with_entries : {C R : Type 0} → (List (Entry C) → List (Entry C)) → Column C R → Column C R
with_entries f k = record { entries = f k.entries; result = k.result }

module _ {V C R : Type 0} where
  abbrev pub with_columns : Contents V C R → List (Column C R) → Contents V C R
  with_columns c ks = record { quantities = c.quantities; rows = c.rows; columns = ks; nevers = c.nevers; default = c.default }

  abbrev pub with_nevers : Contents V C R → List (List (Entry C)) → Contents V C R
  with_nevers c ns = record { quantities = c.quantities; rows = c.rows; columns = c.columns; nevers = ns; default = c.default }

  abbrev pub with_default : Contents V C R → Option R → Contents V C R
  with_default c d = record { quantities = c.quantities; rows = c.rows; columns = c.columns; nevers = c.nevers; default = d }

  -- what an accepted edit makes of the contents
  abbrev pub edited : Edit V C R → Contents V C R → Contents V C R
  edited (name_quantity q) c = record { quantities = c.quantities ++ (q ∷ []); rows = c.rows; columns = c.columns; nevers = c.nevers; default = c.default }
  edited (add_row w) c = record {
    quantities = c.quantities;
    rows = c.rows ++ (w ∷ []);
    columns = map (with_entries (λ xs. xs ++ (Any ∷ []))) c.columns;
    nevers = map (λ xs. xs ++ (Any ∷ [])) c.nevers;
    default = c.default;
  }
  edited (add_column x) c = with_columns c (c.columns ++ (record { entries = any_of c.rows; result = x } ∷ []))
  edited add_never c = with_nevers c (c.nevers ++ (any_of c.rows ∷ []))
  edited (set_cell i j x) c = cond (nat_lt j 16)
      (with_columns c (changed j (with_entries (λ xs. slice_set xs i x)) c.columns))
      (with_nevers c (changed (j - 16) (λ xs. slice_set xs i x) c.nevers))
  edited (set_default x) c = with_default c (Some x)
  edited clear_default c = with_default c None
  edited strike_column c = with_columns c (take (length c.columns - 1) c.columns)
  edited strike_never c = with_nevers c (take (length c.nevers - 1) c.nevers)

  -- never n is column 16 + n
  abbrev pub column_exists : Contents V C R → ℕ → Bool
  column_exists c j = cond (nat_lt j 16) (nat_lt j (length c.columns)) (nat_lt (j - 16) (length c.nevers))

  abbrev pub empty : Contents V C R
  empty = record { quantities = []; rows = []; columns = []; nevers = []; default = None }

  abbrev pub opened : Sheet V C R
  opened = record { status = draft; contents = empty }

module _ {V C R : Type 0} (m : Meaning V C) (r : Results R) where
  abbrev pub lawful_at : List (Quantity V) → Option Row → Entry C → Bool
  lawful_at qs None x = false
  lawful_at qs (Some w) x = entry_lawful m qs w x

  -- the questions of an edit in order, each with the fault of a no
  abbrev pub asked : Edit V C R → Contents V C R → List (Bool × SheetFault)
  asked (name_quantity q) c = (nat_lt (length c.quantities) 16, TooManyQuantities) ∷ (range_lawful m q, Kind Range) ∷ []
  asked (add_row w) c = (nat_lt (length c.rows) 16, TooManyRows) ∷ (nat_lt w.quantity (length c.quantities), NoSuchQuantity) ∷ (row_lawful m c.quantities w, WrongMode) ∷ []
  asked (add_column x) c = (nat_lt (length c.columns) 16, TooManyColumns) ∷ (r.lawful x, UnlawfulResult) ∷ []
  asked add_never c = (nat_lt (length c.nevers) 8, TooManyNevers) ∷ []
  asked (set_cell i j x) c = (nat_lt i (length c.rows) && column_exists c j, NoSuchPlace) ∷ (lawful_at c.quantities (slice_get c.rows i) x, Kind CellOf) ∷ []
  asked (set_default x) c = (r.lawful x, UnlawfulResult) ∷ []
  asked clear_default c = []
  asked strike_column c = (nat_lt 0 (length c.columns), NothingToStrike) ∷ []
  asked strike_never c = (nat_lt 0 (length c.nevers), NothingToStrike) ∷ []

  abbrev pub unless_refused : Option SheetFault → Contents V C R → Contents V C R → Contents V C R
  unless_refused None after before = after
  unless_refused (Some f) after before = before

  -- What a call makes of a draft or an issued sheet. One that the state does not allow is never made.
  abbrev pub made_by : Call V C R → Status → Contents V C R → Sheet V C R
  made_by (edit k) draft c = record { status = draft; contents = unless_refused (first_no (asked k c)) (edited k c) c }
  made_by (edit k) issued c = record { status = issued; contents = c }
  made_by (try_issue e) draft c = record { status = cond (refused (issue m r c e)) draft issued; contents = c }
  made_by (try_issue e) issued c = record { status = issued; contents = c }
  made_by (look_up e) s c = record { status = s; contents = c }
  made_by withdraw s c = record { status = draft; contents = c }

  abbrev pub after : Call V C R → Sheet V C R → Sheet V C R
  after k s = made_by k s.status s.contents

  abbrev pub run : Sheet V C R → List (Call V C R) → Sheet V C R
  run s [] = s
  run s (k ∷ ks) = run (after k s) ks

  -- what calls make, from open on
  abbrev pub made : List (Call V C R) → Sheet V C R
  made ks = run opened ks
