-- Where the marks of the starts of a quantity lie, and how many marks a sheet needs. Assumes nothing.
use Rattle.std.specs.Prelude.{◌≡◌, ℕ, suc, ◌+◌, ◌≤◌, List, [], ◌∷◌, length, take}
use Rattle.std.specs.List.{between}
use Rattle.kinds.specs.Meaning.{Meaning}
use Rattle.items.specs.declared.Quantity.{Quantity}
use Rattle.items.specs.declared.Entry.{Entry}
use Rattle.tables.specs.Contents.{Contents}
use Rattle.tables.specs.Starts.{cells_of, starts}
use Rattle.sets.specs.declared.Mark.{Mark}
use Rattle.sets.specs.Marks.{AllMarked}

module _ {V C R : Type 0} (m : Meaning V C) (c : Contents V C R) where
  -- the marks of the starts of quantity i lie from one place up to another; those before them are as they were
  pub record MarkedTo (column : ℕ → List (Entry C)) (i : ℕ) (q : Quantity V) (before after : List (Mark V)) (from to : ℕ) : Type 0 where
    pub marked : AllMarked m c.rows column i (starts m (cells_of c i) q) (between from to after)
    pub kept : take from after ≡ take from before
    pub counted : to ≡ from + length (starts m (cells_of c i) q)
    pub within : to ≤ length after

  -- how many starts the quantities have, from number i on
  abbrev pub starts_in_all : ℕ → List (Quantity V) → ℕ
  starts_in_all i [] = 0
  starts_in_all i (q ∷ qs) = length (starts m (cells_of c i) q) + starts_in_all (suc i) qs
