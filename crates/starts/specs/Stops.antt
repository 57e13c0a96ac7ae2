-- The stops of one entry, and of some columns. Assumes nothing.
use Rattle.std.specs.Prelude.{ℕ, ◌-◌, List, None, Option}
use Rattle.std.specs.List.{range_with_len}
use Rattle.kinds.specs.Meaning.{Meaning}
use Rattle.items.specs.declared.Entry.{Entry}
use Rattle.items.specs.declared.Entry.TheVariants.{Any, Cell}
use Rattle.tables.specs.Words.{each}
use Rattle.tables.specs.Starts.{reading}
use Rattle.tables.specs.Storage.{column_of}
use Rattle.lists.specs.Held.{seen}
use Rattle.kinds.specs.declared.Kind.{Ghosts}
use Rattle.lists.specs.declared.view.View.{View}

-- the stop of an entry after v, if it is a cell
abbrev pub stop_of : {V C : Type 0} → Meaning V C → Entry C → V → Option V
stop_of m Any v = None
stop_of m (Cell x) v = m.stop x v

-- the cells in rows that read quantity i, of the columns from number j up to n
abbrev pub cells_from : {K R V C : Type 0} {k : Ghosts K V C} → View K R V C k → ℕ → ℕ → ℕ → List C
cells_from v i j n = each (range_with_len j (n - j)) (λ k. reading i (seen v).rows (column_of v.entries.now v.counts.rows k))
