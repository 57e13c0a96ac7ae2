-- A run of calls that makes the vertical sheet, edits that are refused, and contents that no edits make. Assumes nothing.
use Rattle.std.specs.Prelude.{List, [], ◌∷◌, replicate, Some, None}
use Rattle.house.specs.House.{Value, Cell}
use Rattle.results.specs.declared.figure.Figure.{Figure}
use Rattle.items.specs.declared.Scope.TheVariants.{Flight}
use Rattle.items.specs.declared.Mode.TheVariants.{A, B, Pair}
use Rattle.tables.specs.Calls.{Edit, name_quantity, add_row, add_column, add_never, set_cell, set_default, strike_never, Call, edit, try_issue, withdraw}
use Rattle.tables.specs.Storage.{Lists}
use Rattle.examples.specs.Writing.{Page, figure, level, band, name1, any, row, column, levels, yes_or_no, lent}

abbrev pub HouseCall : Type 0
HouseCall = Call Value Cell Figure

abbrev pub vertical_calls : List HouseCall
vertical_calls = edit (name_quantity (levels Flight 660)) ∷ edit (name_quantity (yes_or_no Flight))
    ∷ edit (add_row (row 0 A)) ∷ edit (add_row (row 0 B)) ∷ edit (add_row (row 1 A)) ∷ edit (add_row (row 1 B))
    ∷ edit (add_column (figure 1000)) ∷ edit (add_column (figure 1000)) ∷ edit (add_column (figure 4000)) ∷ edit (add_column (figure 4000))
    ∷ edit (set_cell 0 0 (band 0 280)) ∷ edit (set_cell 1 1 (band 0 280))
    ∷ edit (set_cell 0 2 (band 451 660)) ∷ edit (set_cell 1 2 (band 451 660)) ∷ edit (set_cell 2 2 name1)
    ∷ edit (set_cell 0 3 (band 451 660)) ∷ edit (set_cell 1 3 (band 451 660)) ∷ edit (set_cell 3 3 name1)
    ∷ edit (set_default (figure 2000)) ∷ try_issue lent ∷ []

-- withdraw, two edits that are refused, and a default that is set again
abbrev pub calls_after : List HouseCall
calls_after = withdraw ∷ edit strike_never ∷ edit (set_cell 9 9 any) ∷ edit (set_default (figure 2000)) ∷ []

-- edits of the vertical sheet: a range the wrong way round, a quantity and a mode that are not there, a result too great, places that do not exist, a cell of another kind, any, and no never to strike
abbrev pub wrong_edits : List (Edit Value Cell Figure)
wrong_edits = name_quantity (record { scope = Flight; least = level 5; greatest = level 4 })
    ∷ add_row (row 2 A) ∷ add_row (row 0 Pair)
    ∷ add_column (figure 1000001) ∷ set_default (figure 1000001)
    ∷ set_cell 4 0 any ∷ set_cell 0 4 any ∷ set_cell 0 16 any
    ∷ set_cell 0 0 name1 ∷ set_cell 0 0 any
    ∷ strike_never ∷ []

-- edits of a full sheet
abbrev pub edits : List (Edit Value Cell Figure)
edits = name_quantity (yes_or_no Flight) ∷ add_row (row 0 A) ∷ add_column (figure 1) ∷ add_never ∷ []

-- four lists of right length with nothing in them
abbrev pub blank : Lists Value Cell Figure
blank = record {
  quantities = replicate 16 (yes_or_no Flight);
  rows = replicate 16 (row 0 A);
  entries = replicate 384 any;
  results = replicate 17 (figure 0);
}

-- no range, no quantity, a wrong mode, a cell of another kind, an entry too few, an unlawful result, a never with an entry too many, an unlawful default
abbrev pub wrong_pages : List Page
wrong_pages = record { quantities = record { scope = Flight; least = level 5; greatest = level 4 } ∷ []; rows = []; columns = []; nevers = []; default = None }
    ∷ record { quantities = []; rows = row 0 A ∷ []; columns = []; nevers = []; default = None }
    ∷ record { quantities = yes_or_no Flight ∷ []; rows = row 0 Pair ∷ []; columns = []; nevers = []; default = None }
    ∷ record { quantities = yes_or_no Flight ∷ []; rows = row 0 A ∷ []; columns = column 1 (band 0 1 ∷ []) ∷ []; nevers = []; default = None }
    ∷ record { quantities = yes_or_no Flight ∷ []; rows = row 0 A ∷ []; columns = column 1 [] ∷ []; nevers = []; default = None }
    ∷ record { quantities = []; rows = []; columns = column 1000001 [] ∷ []; nevers = []; default = None }
    ∷ record { quantities = []; rows = []; columns = []; nevers = (any ∷ []) ∷ []; default = None }
    ∷ record { quantities = []; rows = []; columns = []; nevers = []; default = Some (figure 1000001) } ∷ []
