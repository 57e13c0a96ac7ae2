-- What the way by sets finds, in the words of the encounters made of starts. Assumes nothing.
use Rattle.std.specs.Prelude.{◌≡◌, ℕ, Bool, true, List, is_some}
use Rattle.std.specs.Option.{option_map, unwrap_or}
use Rattle.kinds.specs.Meaning.{Meaning}
use Rattle.items.specs.declared.Counts.{Counts}
use Rattle.items.specs.declared.Entry.{Entry}
use Rattle.tables.specs.Contents.{Contents, Encounter, places, whole}
use Rattle.tables.specs.Starts.{from_starts, reset}
use Rattle.sets.specs.declared.Met.{Met}
use Rattle.sets.specs.declared.Mark.{Mark}
use Rattle.sets.specs.declared.Span.{Span}
use Rattle.sets.specs.Sets.{Has, in_use, MetBy}
use Rattle.sets.specs.Marks.{AllSpanned}
use Rattle.sets.specs.Walks.{first_of, leaves, Walked}

-- Nothing is ruled out: both sets have all columns and nevers in use.
pub record AllInUse (n : Counts) (s : Met) : Type 0 where
  pub here : Has s.here (in_use n)
  pub exchanged : Has s.exchanged (in_use n)

-- What is found among the encounters made of starts: was what f tells sought and found, and the encounter shown, the earliest one or else e; only needed values of e are altered.
pub record EarliestFound {V C R : Type 0} (m : Meaning V C) (c : Contents V C R) (f : Encounter V → Bool) (e : Encounter V) (b : Bool) (after : Encounter V) : Type 0 where
  pub told : b ≡ is_some (first_of f (from_starts m c e))
  pub shows : after ≡ unwrap_or (first_of f (from_starts m c e)) e
  pub others : reset m c (places c) after ≡ reset m c (places c) e
  pub lengths : whole after ≡ true

module _ {V C R : Type 0} (m : Meaning V C) (n : Counts) (c : Contents V C R) (column : ℕ → List (Entry C)) where
  -- g tells from what an encounter meets what f tells of the encounter
  abbrev pub Tells : (Met → Bool) → (Encounter V → Bool) → Type 0
  Tells g f = (s : Met) (e : Encounter V) → MetBy m n c.rows column c s e → g s ≡ f e

  module _ (marks : List (Mark V)) (spans : List Span) where
    -- from all in use on, the first that g tells by sets is the first that f tells of the encounters made of starts
    abbrev pub FindTheEarliest : Type 0
    FindTheEarliest = AllSpanned m c column marks 0 c.quantities spans
        → (f : Encounter V → Bool) (g : Met → Bool) → Tells g f
        → (s : Met) → AllInUse n s → (e : Encounter V) → whole e ≡ true
        → option_map (λ l. l.1) (first_of (λ l. g l.0) (leaves marks spans s e)) ≡ first_of f (from_starts m c e)

    -- so a way through them finds it
    abbrev pub WalksFind : Type 0
    WalksFind = AllSpanned m c column marks 0 c.quantities spans
        → (f : Encounter V → Bool) (g : Met → Bool) → Tells g f
        → (s : Met) → AllInUse n s → (e : Encounter V) → whole e ≡ true
        → (b : Bool) (after : Encounter V) → Walked g marks spans s e b after → EarliestFound m c f e b after
