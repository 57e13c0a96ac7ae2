-- Short words for writing down sheets and encounters at the joined house kinds. Assumes nothing.
use Rattle.std.specs.Prelude.{ℕ, true, List, [], ◌++◌, length, drop, replicate, pos, Some, None, Ok, Err, Option, Result}
use Rattle.std.specs.Option.{option_map}
use Rattle.joined.specs.declared.Either.TheVariants.{Left, Right}
use Rattle.house.specs.House.{Value, Cell}
use Rattle.results.specs.declared.figure.Figure.{Figure}
use Rattle.items.specs.declared.Scope.{Scope}
use Rattle.items.specs.declared.Mode.{Mode}
use Rattle.items.specs.declared.Quantity.{Quantity}
use Rattle.items.specs.declared.Row.{Row}
use Rattle.items.specs.declared.Entry.{Entry}
use Rattle.items.specs.declared.Entry.TheVariants.{Any, Cell as CellOf}
use Rattle.faults.specs.declared.SheetFault.{SheetFault}
use Rattle.faults.specs.Numbers.{sheet_number}
use Rattle.tables.specs.Contents.{Contents, Column, Encounter}

-- a sheet of figures over the joined house kinds
abbrev pub Page : Type 0
Page = Contents Value Cell Figure

abbrev pub figure : ℕ → Figure
figure n = record { value = pos n }

abbrev pub level : ℕ → Value
level n = Left (pos n)

abbrev pub name : ℕ → Value
name n = Right (Left n)

abbrev pub minute : ℕ → Value
minute t = Right (Right t)

-- the measures from lo to hi
abbrev pub band : ℕ → ℕ → Entry Cell
band lo hi = CellOf (Left (record { lo = pos lo; hi = pos hi; inside = true }))

-- the set of the one name 0, and of the one name 1
abbrev pub name0 : Entry Cell
name0 = CellOf (Right (Left (record { bits = 1 })))

abbrev pub name1 : Entry Cell
name1 = CellOf (Right (Left (record { bits = 2 })))

abbrev pub any : Entry Cell
any = Any

abbrev pub window : ℕ → ℕ → Cell
window start end = Right (Right (record { start = start; end = end }))

abbrev pub row : ℕ → Mode → Row
row i k = record { quantity = i; mode = k }

abbrev pub column : ℕ → List (Entry Cell) → Column Cell Figure
column x es = record { entries = es; result = figure x }

abbrev pub levels : Scope → ℕ → Quantity Value
levels s greatest = record { scope = s; least = level 0; greatest = level greatest }

-- the names 0 and 1
abbrev pub yes_or_no : Scope → Quantity Value
yes_or_no s = record { scope = s; least = name 0; greatest = name 1 }

-- the first values of a list of 16, the others 0
abbrev pub filled : List Value → List Value
filled vs = vs ++ drop (length vs) (replicate 16 (level 0))

abbrev pub flights : List Value → List Value → Encounter Value
flights a b = record { a = filled a; b = filled b; pair = filled [] }

-- the encounter lists lent to issue
abbrev pub lent : Encounter Value
lent = flights [] []

-- the number of a refusal
abbrev pub fault_number : Option SheetFault → Option ℕ
fault_number f = option_map sheet_number f

abbrev pub number : {X : Type 0} → Result X SheetFault → Option ℕ
number (Ok x) = None
number (Err f) = Some (sheet_number f)
