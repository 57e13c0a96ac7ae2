-- The sheets that are worked through. Assumes nothing.
use Rattle.std.specs.Prelude.{ℕ, zero, suc, List, [], ◌∷◌, replicate, Some, None, Option}
use Rattle.house.specs.House.{Cell}
use Rattle.tables.specs.Contents.{Column}
use Rattle.results.specs.declared.figure.Figure.{Figure}
use Rattle.items.specs.declared.Scope.TheVariants.{Flight, Pair as Shared}
use Rattle.items.specs.declared.Mode.TheVariants.{A, B, Both, Pair}
use Rattle.items.specs.declared.Row.{Row}
use Rattle.examples.specs.Writing.{Page, figure, band, name0, name1, any, row, column, levels, yes_or_no}

-- vertical minima in feet: level and supersonic of each flight
abbrev pub vertical : Option Figure → Page
vertical d = record {
  quantities = levels Flight 660 ∷ yes_or_no Flight ∷ [];
  rows = row 0 A ∷ row 0 B ∷ row 1 A ∷ row 1 B ∷ [];
  columns = column 1000 (band 0 280 ∷ any ∷ any ∷ any ∷ [])
      ∷ column 1000 (any ∷ band 0 280 ∷ any ∷ any ∷ [])
      ∷ column 4000 (band 451 660 ∷ band 451 660 ∷ name1 ∷ any ∷ [])
      ∷ column 4000 (band 451 660 ∷ band 451 660 ∷ any ∷ name1 ∷ []) ∷ [];
  nevers = [];
  default = d;
}

abbrev pub vertical_sheet : Page
vertical_sheet = vertical (Some (figure 2000))

-- minutes for the same direction: both reported over a common point, on the same or diverging tracks, each on certain routes
abbrev pub same_direction : Page
same_direction = record {
  quantities = yes_or_no Shared ∷ yes_or_no Shared ∷ yes_or_no Flight ∷ [];
  rows = row 0 Pair ∷ row 1 Pair ∷ row 2 Both ∷ [];
  columns = column 15 (name1 ∷ name1 ∷ any ∷ []) ∷ column 20 (any ∷ any ∷ name1 ∷ []) ∷ [];
  nevers = [];
  default = Some (figure 30);
}

abbrev rows_to : ℕ → List Row
rows_to zero = []
rows_to (suc k) = row k Both ∷ rows_to k

-- n flight quantities of two names, each with a cell {1}
abbrev pub many : ℕ → Page
many n = record {
  quantities = replicate n (yes_or_no Flight);
  rows = rows_to n;
  columns = column 1 (replicate n name1) ∷ [];
  nevers = [];
  default = Some (figure 1);
}

abbrev pub no_quantities : Option Figure → Page
no_quantities d = record { quantities = []; rows = []; columns = []; nevers = []; default = d }

abbrev pub never_for_a : Page
never_for_a = record {
  quantities = yes_or_no Flight ∷ [];
  rows = row 0 A ∷ [];
  columns = [];
  nevers = (name1 ∷ []) ∷ [];
  default = Some (figure 1);
}

-- a minimum by the level of A alone
abbrev pub level_of_a : Page
level_of_a = record {
  quantities = levels Flight 660 ∷ [];
  rows = row 0 A ∷ [];
  columns = column 1000 (band 0 280 ∷ []) ∷ column 2000 (band 281 660 ∷ []) ∷ [];
  nevers = [];
  default = None;
}

-- two rows that read one quantity
abbrev pub two_rows : Page
two_rows = record {
  quantities = levels Shared 9 ∷ [];
  rows = row 0 Pair ∷ row 0 Pair ∷ [];
  columns = column 1 (band 0 4 ∷ any ∷ []) ∷ column 2 (any ∷ band 5 9 ∷ []) ∷ [];
  nevers = [];
  default = None;
}

-- both 0, and both 1
abbrev pub both_or_both : Page
both_or_both = record {
  quantities = yes_or_no Flight ∷ [];
  rows = row 0 Both ∷ [];
  columns = column 1 (name0 ∷ []) ∷ column 2 (name1 ∷ []) ∷ [];
  nevers = [];
  default = None;
}

-- columns without rows, which are always met
abbrev bearing : List ℕ → List (Column Cell Figure)
bearing [] = []
bearing (x ∷ xs) = column x [] ∷ bearing xs

abbrev pub always_met : List ℕ → Page
always_met xs = record { quantities = []; rows = []; columns = bearing xs; nevers = []; default = None }

-- a never that is always met
abbrev pub never_flown : Page
never_flown = record { quantities = []; rows = []; columns = []; nevers = [] ∷ []; default = Some (figure 1) }

-- as much of everything as there may be
abbrev pub full : Page
full = record {
  quantities = replicate 16 (yes_or_no Flight);
  rows = replicate 16 (row 0 A);
  columns = replicate 16 (column 1 (replicate 16 any));
  nevers = replicate 8 (replicate 16 any);
  default = None;
}
