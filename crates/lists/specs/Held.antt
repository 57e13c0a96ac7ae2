-- What the lists of a call hold, by the definitions of a sheet. Assumes nothing.
use Rattle.std.specs.Prelude.{◌≡◌, true, false, Some, None, Ok, Err, Option, Result}
use Rattle.faults.specs.declared.SheetFault.{SheetFault}
use Rattle.faults.specs.declared.SheetFault.TheVariants.{Lists as WrongLists}
use Rattle.items.specs.declared.Counts.{Counts}
use Rattle.kinds.specs.Meaning.{Meaning}
use Rattle.kinds.specs.declared.Kind.{Ghosts}
use Rattle.results.specs.Results.{Results}
use Rattle.tables.specs.Contents.{Contents, Encounter}
use Rattle.tables.specs.Storage.{Lists, contents_of, in_order, right_lengths}
use Rattle.lists.specs.declared.lent.Lists.{Lists as LentLists}
use Rattle.lists.specs.declared.lent.Encounter.{Encounter as LentEncounter}
use Rattle.lists.specs.declared.lent.Showing.{Showing}
use Rattle.lists.specs.declared.view.View.{View}

module _ {K R V C : Type 0} where
  -- what the four lists hold now
  abbrev pub lists_of : LentLists K R V C → Lists V C R
  lists_of l = record { quantities = l.quantities.now; rows = l.rows.now; entries = l.entries.now; results = l.results.now }

  -- the four lists behind a view, and the contents that it shows
  abbrev pub viewed : {k : Ghosts K V C} → View K R V C k → Lists V C R
  viewed v = record { quantities = v.quantities.now; rows = v.rows.now; entries = v.entries.now; results = v.results.now }

  abbrev pub seen : {k : Ghosts K V C} → View K R V C k → Contents V C R
  seen v = contents_of v.counts (viewed v)

module _ {V : Type 0} where
  abbrev pub encounter_of : LentEncounter V → Encounter V
  encounter_of e = record { a = e.a.now; b = e.b.now; pair = e.pair.now }

  -- the encounter that lists show
  abbrev pub shown : Showing V → Encounter V
  shown e = record { a = e.a.now; b = e.b.now; pair = e.pair.now }

-- A call that writes lists lent to it leaves the same lists lent: only what they hold may have changed.
pub record SameLists {K R V C : Type 0} (before after : LentLists K R V C) : Type 0 where
  pub quantities : after.quantities.ghost_name ≡ before.quantities.ghost_name
  pub rows : after.rows.ghost_name ≡ before.rows.ghost_name
  pub entries : after.entries.ghost_name ≡ before.entries.ghost_name
  pub results : after.results.ghost_name ≡ before.results.ghost_name

pub record SameShowing {V : Type 0} (before after : Showing V) : Type 0 where
  pub a : after.a.ghost_name ≡ before.a.ghost_name
  pub b : after.b.ghost_name ≡ before.b.ghost_name
  pub pair : after.pair.ghost_name ≡ before.pair.ghost_name

module _ {K R V C : Type 0} where
  -- a view of lists of right length
  abbrev pub Looked : {k : Ghosts K V C} → Counts → LentLists K R V C → Option (View K R V C k) → Type 0
  Looked n l (Some v) = (v.counts ≡ n) × (viewed v ≡ lists_of l) × (right_lengths (lists_of l) ≡ true)
  Looked n l None = right_lengths (lists_of l) ≡ false

  -- what the first question answers: a view of what the lists hold, or a refusal
  abbrev pub FirstAnswer : {k : Ghosts K V C} → Meaning V C → Results R → Counts → LentLists K R V C → Result (View K R V C k) SheetFault → Type 0
  FirstAnswer m r n l (Ok v) = (v.counts ≡ n) × (viewed v ≡ lists_of l) × (in_order m r n (lists_of l) ≡ true)
  FirstAnswer m r n l (Err f) = (f ≡ WrongLists) × (in_order m r n (lists_of l) ≡ false)
