-- What is sought among the encounters made of starts, and what is found. Assumes nothing.
use Rattle.std.specs.Prelude.{◌≡◌, ℕ, Bool, true, List, is_some, Some, None, Option, Result}
use Rattle.std.specs.Fn.{FnReturnsAt, Shared}
use Rattle.std.specs.Option.{unwrap_or}
use Rattle.std.specs.Borrow.{Bor}
use Rattle.lists.specs.Held.{encounter_of, seen}
use Rattle.lists.specs.declared.view.View.{View}
use Rattle.lists.specs.declared.lent.Encounter.{Encounter as LentEncounter}
use Rattle.faults.specs.declared.SheetFault.{SheetFault}
use Rattle.faults.specs.declared.SheetFault.TheVariants.{Clash as ClashFault}
use Rattle.kinds.specs.Meaning.{Meaning}
use Rattle.kinds.specs.declared.Kind.{Ghosts}
use Rattle.items.specs.declared.Entry.{Entry}
use Rattle.results.specs.Results.{Results}
use Rattle.tables.specs.Acceptance.{Acceptable}
use Rattle.tables.specs.Contents.{Contents, Encounter, places, whole}
use Rattle.tables.specs.Outcomes.{Outcome, barred, gap, clash, answer}
use Rattle.tables.specs.Starts.{from_starts, reset}
use Rattle.tables.specs.Storage.{column_of}
use Rattle.sets.specs.declared.Mark.{Mark}
use Rattle.sets.specs.declared.Met.{Met}
use Rattle.sets.specs.declared.Span.{Span}
use Rattle.sets.specs.Marks.{AllSpanned}
use Rattle.sets.specs.Walks.{first_of}
use Rattle.ways.specs.Ways.{Tells}
use Rattle.tables.specs.Issues.{Issue, answered, written}

-- the test t answers f of each encounter
abbrev pub Tests : {F V : Type 0} → Shared F (Bor (LentEncounter V) × Unit {0}) Bool → F → (Encounter V → Bool) → Type 0
Tests g t f = (e : LentEncounter _) (b : Bool) → FnReturnsAt g t e b → b ≡ f (encounter_of e)

-- the columns that a clash names
abbrev pub clash_fault : {R : Type 0} → Outcome R → SheetFault
clash_fault = elim [ barred ↦ ClashFault 0 0 | gap ↦ ClashFault 0 0 | clash i j ↦ ClashFault i j | answer x ↦ ClashFault 0 0 ]

module _ {V C R : Type 0} (m : Meaning V C) (r : Results R) (c : Contents V C R) where
  -- the answer to an issue, and the encounter lists after it, of which lent are those before it
  pub record Found (lent : Encounter V) (i : Issue V) (t : Result ℕ SheetFault) (e : Encounter V) : Type 0 where
    pub answer : t ≡ answered i
    pub writes : e ≡ written m r c lent i

-- What is left of a seek among the encounters es: was one found, and the encounter shown, the first one or else that of the least values.
pub record Ended {V C R : Type 0} (m : Meaning V C) (c : Contents V C R) (f : Encounter V → Bool) (es : List (Encounter V)) (least : Encounter V) (b : Bool) (e : Encounter V) : Type 0 where
  pub told : b ≡ is_some (first_of f es)
  pub shows : e ≡ unwrap_or (first_of f es) least
  pub others : reset m c (places c) e ≡ least
  pub lengths : whole e ≡ true

module _ {V C R : Type 0} (m : Meaning V C) (r : Results R) (c : Contents V C R) where
  -- what a way through the encounters made of starts leaves, of which and of whose lists f is sought: of all encounters with the same other values as the one before it
  abbrev pub Sought : (Encounter V → Bool) → Encounter V → Bool → Encounter V → Type 0
  Sought f before b after = Acceptable m r c → (lent : Encounter V) → whole lent ≡ true → whole before ≡ true → reset m c (places c) before ≡ reset m c (places c) lent
      → Ended m c f (from_starts m c lent) (reset m c (places c) lent) b after

module _ {K R V C : Type 0} {k : Ghosts K V C} (m : Meaning V C) (v : View K R V C k) where
  abbrev pub column_in : ℕ → List (Entry C)
  column_in j = column_of v.entries.now v.counts.rows j

  -- g tells from what an encounter meets what f tells of the encounter
  abbrev pub TellsOf : (Met → Bool) → (Encounter V → Bool) → Type 0
  TellsOf g f = Tells m v.counts (seen v) column_in g f

  -- the spans have the marks of the starts of all quantities
  abbrev pub SpannedBy : List (Mark V) → List Span → Type 0
  SpannedBy marks spans = AllSpanned m (seen v) column_in marks 0 (seen v).quantities spans

  -- so they do, where there are any
  abbrev pub RightlyMarked : List (Mark V) → Option (Bor (List Span)) → Type 0
  RightlyMarked marks None = Unit {0}
  RightlyMarked marks (Some ss) = SpannedBy marks ss.now
