-- The lines of a page: which fields follow the first word. `at` is the byte of the line, from 1,
-- at which the fields start. A reading refuses with the byte of the first wrong field. Assumes nothing.
use Rattle.std.specs.Prelude.{◌≡◌, ℕ, zero, suc, ◌+◌, cond, List, [], ◌∷◌, length, take, Ok, Err, Result, nat_le}
use Rattle.items.specs.declared.Scope.{Scope}
use Rattle.items.specs.declared.Scope.TheVariants.{Flight as FlightS, Pair as PairS}
use Rattle.results.specs.declared.figure.Figure.{Figure}
use Rattle.text.specs.Forms.{first, none, onward, rest, rest_at}
use Rattle.text.specs.Numbers.{number, measure}
use Rattle.text.specs.Words.{mode, kind, value}
use Rattle.text.specs.Cells.{entry}
use Rattle.text.specs.declared.types.Word.{Word}
use Rattle.text.specs.declared.types.Word.TheVariants.{Flight, Pair as PairW, Row as RowW, Column, Never, Default, End}
use Rattle.text.specs.declared.types.QuantityLine.{QuantityLine}
use Rattle.text.specs.declared.types.RowLine.{RowLine}
use Rattle.text.specs.declared.types.Placed.{Placed}

-- a quantity: a kind, two values of that kind, and nothing more
abbrev pub quantity : Scope → ℕ → List (List ℕ) → Result QuantityLine ℕ
quantity scope at fs =
    onward (first kind at fs) (λ k.
    onward (first (value k) (rest_at at fs) (rest fs)) (λ lo.
    onward (first (value k) (rest_at (rest_at at fs) (rest fs)) (rest (rest fs))) (λ hi.
    none (record { quantity = record { scope = scope; least = lo; greatest = hi }; least_byte = rest_at at fs })
    (rest_at (rest_at (rest_at at fs) (rest fs)) (rest (rest fs))) (rest (rest (rest fs))))))

-- a row: a quantity's number, a mode, and nothing more
abbrev pub row : ℕ → List (List ℕ) → Result RowLine ℕ
row at fs =
    onward (first number at fs) (λ q.
    onward (first mode (rest_at at fs) (rest fs)) (λ m.
    none (record { row = record { quantity = q; mode = m }; quantity_byte = at; mode_byte = rest_at at fs })
    (rest_at (rest_at at fs) (rest fs)) (rest (rest fs))))

-- a result: a figure
abbrev pub result : ℕ → List (List ℕ) → Result Figure ℕ
result at fs = onward (first measure at fs) (λ z. Ok (record { value = z }))

-- an entry, with its place
abbrev pub placed : ℕ → List (List ℕ) → Result Placed ℕ
placed at fs = onward (first entry at fs) (λ e. Ok (record { entry = e; byte = at }))

-- a given number of entries, and nothing more
abbrev pub in_row : ℕ → ℕ → List (List ℕ) → Result (List Placed) ℕ
in_row zero at fs = none [] at fs
in_row (suc n) at fs =
    onward (placed at fs) (λ e.
    onward (in_row n (rest_at at fs) (rest fs)) (λ es. Ok (e ∷ es)))

-- an entry for each of `n` rows, and nothing more; a sheet has at most 16 rows
abbrev pub entries : ℕ → ℕ → List (List ℕ) → Result (List Placed) ℕ
entries n at fs = cond (nat_le n 16) (in_row n at fs) (Err 1)

-- entries that stand at the front of a list of places
abbrev pub Kept : Result (List Placed) ℕ → List Placed → Type 0
Kept (Ok es) out = take (length es) out ≡ es
Kept (Err b) out = Unit {0}

-- a result, and then an entry for each of `n` rows
abbrev pub column : ℕ → ℕ → List (List ℕ) → Result (Figure × List Placed) ℕ
column n at fs =
    onward (result at fs) (λ x.
    onward (entries n (rest_at at fs) (rest fs)) (λ es. Ok (x, es)))

-- the result of a column, without its entries, and its entries at the front of a list of places
abbrev pub results : Result (Figure × List Placed) ℕ → Result Figure ℕ
results (Ok c) = Ok c.0
results (Err b) = Err b

abbrev pub KeptColumn : Result (Figure × List Placed) ℕ → List Placed → Type 0
KeptColumn (Ok c) out = take (length c.1) out ≡ c.1
KeptColumn (Err b) out = Unit {0}

-- a result, and nothing more
abbrev pub default : ℕ → List (List ℕ) → Result Figure ℕ
default at fs = onward (result at fs) (λ x. none x (rest_at at fs) (rest fs))

-- what a line says, but the last, which says that the page ends
pub data Line : Type 0 where
  quantity_line : QuantityLine → Line
  row_line : RowLine → Line
  column_line : Figure → List Placed → Line
  never_line : List Placed → Line
  default_line : Figure → Line

-- the fields after a line's first word, on a sheet of `n` rows
abbrev pub line_of : Word → ℕ → ℕ → List (List ℕ) → Result Line ℕ
line_of Flight n at fs = onward (quantity FlightS at fs) (λ q. Ok (quantity_line q))
line_of PairW n at fs = onward (quantity PairS at fs) (λ q. Ok (quantity_line q))
line_of RowW n at fs = onward (row at fs) (λ r. Ok (row_line r))
line_of Column n at fs = onward (column n at fs) (λ c. Ok (column_line c.0 c.1))
line_of Never n at fs = onward (entries n at fs) (λ es. Ok (never_line es))
line_of Default n at fs = onward (default at fs) (λ x. Ok (default_line x))
line_of End n at fs = Err 1

-- how many rows there are after a line
abbrev pub rows_after : Word → ℕ → ℕ
rows_after Flight n = n
rows_after PairW n = n
rows_after RowW n = n + 1
rows_after Column n = n
rows_after Never n = n
rows_after Default n = n
rows_after End n = n
