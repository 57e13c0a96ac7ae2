-- What a row reads, by its mode, and when a column is met. Assumes nothing.
use Rattle.std.specs.Prelude.{◌≡◌, ℕ, true, ◌⊎◌, List, Some, Decides}
use Rattle.std.specs.List.{slice_get}
use Rattle.kinds.specs.Meaning.{Meaning}
use Rattle.items.specs.declared.Side.{Side}
use Rattle.items.specs.declared.Side.TheVariants.{OfA, OfB, OfPair}
use Rattle.items.specs.declared.Mode.{Mode}
use Rattle.items.specs.declared.Mode.TheVariants.{A, B, Both, Either, Pair}
use Rattle.items.specs.declared.Row.{Row}
use Rattle.items.specs.declared.Entry.{Entry}
use Rattle.items.specs.declared.Entry.TheVariants.{Any, Cell}
use Rattle.tables.specs.Contents.{Encounter, value_at}
use Rattle.tables.specs.Outcomes.{test, met}

module _ {V C : Type 0} (m : Meaning V C) (e : Encounter V) where
  -- the encounter has a value of quantity i on the side, and the cell holds for it
  abbrev pub HoldsFor : C → Side → ℕ → Type 0
  HoldsFor x s i = (v : V) × ((value_at e s i ≡ Some v) × (m.holds x v ≡ true))

  -- the cell holds in the mode: for A's value, for B's, for both, for at least one of them, for the pair's
  abbrev pub HoldsIn : Mode → C → ℕ → Type 0
  HoldsIn A x i = HoldsFor x OfA i
  HoldsIn B x i = HoldsFor x OfB i
  HoldsIn Both x i = HoldsFor x OfA i × HoldsFor x OfB i
  HoldsIn Either x i = HoldsFor x OfA i ⊎ HoldsFor x OfB i
  HoldsIn Pair x i = HoldsFor x OfPair i

  -- any always holds
  abbrev pub EntryHolds : Row → Entry C → Type 0
  EntryHolds w Any = Unit {0}
  EntryHolds w (Cell x) = HoldsIn w.mode x w.quantity

  pub record ReadRightly : Type 0 where
    pub modes : (k : Mode) (x : C) (i : ℕ) → Decides (test m k x i e) (HoldsIn k x i)
    -- a column is met exactly when each of its entries holds in its row
    pub columns : (ws : List Row) (xs : List (Entry C))
        → Decides (met m ws xs e) ((i : ℕ) (w : Row) (x : Entry C) → slice_get ws i ≡ Some w → slice_get xs i ≡ Some x → EntryHolds w x)
