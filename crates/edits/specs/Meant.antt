-- What an edit is by the definitions of a sheet, and what it tells and leaves. Assumes nothing.
use Rattle.std.specs.Prelude.{◌≡◌, ◌<◌, Some, None, Ok, Err, Option, Result}
use Rattle.kinds.specs.Meaning.{Meaning}
use Rattle.results.specs.Results.{Results}
use Rattle.faults.specs.declared.SheetFault.{SheetFault}
use Rattle.items.specs.declared.Counts.{Counts}
use Rattle.tables.specs.Answers.{edit_answer}
use Rattle.tables.specs.Calls.{Edit, name_quantity, add_row, add_column, add_never, set_cell, set_default, clear_default, strike_column, strike_never, edited}
use Rattle.tables.specs.Storage.{Lists, contents_of, counts_after, lists_after}
use Rattle.edits.specs.declared.edit.Edit.{Edit as Given}
use Rattle.edits.specs.declared.edit.Edit.TheVariants.{NameQuantity, AddRow, AddColumn, AddNever, SetCell, SetDefault, ClearDefault, StrikeColumn, StrikeNever}

abbrev pub edit_of : {V C R : Type 0} → Given V C R → Edit V C R
edit_of (NameQuantity q) = name_quantity q
edit_of (AddRow w) = add_row w
edit_of (AddColumn x) = add_column x
edit_of AddNever = add_never
edit_of (SetCell i j x) = set_cell i j x
edit_of (SetDefault x) = set_default x
edit_of ClearDefault = clear_default
edit_of StrikeColumn = strike_column
edit_of StrikeNever = strike_never

-- there is room for what the edit adds, or something that it takes out, and its place lies in the sheet
abbrev pub Room : {V C R : Type 0} → Given V C R → Counts → Type 0
Room (NameQuantity q) n = n.quantities < 16
Room (AddRow w) n = n.rows < 16
Room (AddColumn x) n = n.columns < 16
Room AddNever n = n.nevers < 8
Room (SetCell i j x) n = (i < 16) × (j < 24)
Room (SetDefault x) n = Unit {0}
Room ClearDefault n = Unit {0}
Room StrikeColumn n = 0 < n.columns
Room StrikeNever n = 0 < n.nevers

-- the first refusal, if there is one
abbrev pub told : Option SheetFault → Result (Unit {0}) SheetFault
told None = Ok tt
told (Some f) = Err f

-- accepted with the counts, or the first refusal
abbrev pub given : {X : Type 0} → Option SheetFault → X → Result X SheetFault
given None x = Ok x
given (Some f) x = Err f

-- the counts of an accepted edit, or else those before it
abbrev pub ok_or : {X : Type 0} → Result X SheetFault → X → X
ok_or (Ok x) before = x
ok_or (Err f) before = before

abbrev pub unless : {X : Type 0} → Option SheetFault → X → X → X
unless None after before = after
unless (Some f) after before = before

-- An edit k on counts n and lists l leaves the counts n' and the lists l': where its answer is a refusal nothing is changed;
-- else its item is put in place and nothing else, which makes of the contents what the edit is said to make.
pub record EditLeaves {V C R : Type 0} (m : Meaning V C) (r : Results R) (k : Edit V C R) (n : Counts) (l : Lists V C R) (n' : Counts) (l' : Lists V C R) : Type 0 where
  pub counts : n' ≡ unless (edit_answer m r n l k) (counts_after k n) n
  pub lists : l' ≡ unless (edit_answer m r n l k) (lists_after k n l) l
  pub contents : contents_of n' l' ≡ unless (edit_answer m r n l k) (edited k (contents_of n l)) (contents_of n l)
