-- What is left of the rows of a column. Assumes nothing.
use Rattle.std.specs.Prelude.{List, length, zip}
use Rattle.items.specs.declared.Row.{Row}
use Rattle.items.specs.declared.Entry.{Entry}
use Rattle.lists.specs.declared.view.Column.{Column}
use Rattle.kinds.specs.declared.Kind.{Ghosts}
use Rattle.tables.specs.Storage.{column_of}

-- the rows that are left, each with its entry in the column
abbrev pub rows_left : {K V C : Type 0} {k : Ghosts K V C} → Column K V C k → List (Row × Entry C)
rows_left s = zip s.rows.now (column_of s.entries.now (length s.rows.now) s.column)
