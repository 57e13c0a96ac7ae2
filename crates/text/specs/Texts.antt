-- What is written of each value, entry and line, and of a page of lines. The fields of a line are
-- parted by single spaces, and a line ends in byte 10. Assumes nothing.
use Rattle.std.specs.Prelude.{◌≡◌, ℕ, zero, suc, ◌+◌, ◌/◌, ◌%◌, ◌≤◌, Bool, true, false, cond, ◌&&◌, List, [], ◌∷◌, ◌++◌, map, length, ℤ, pos, negsuc, Some, codes, decimal, ◌==◌, nat_lt}
use Rattle.std.specs.Fmt.{signed_decimal}
use Rattle.std.specs.List.{flat_map, AllByRecursion}
use Rattle.joined.specs.declared.Either.TheVariants.{Left, Right}
use Rattle.house.specs.House.{Value, Cell}
use Rattle.items.specs.declared.Mode.{Mode}
use Rattle.items.specs.declared.Mode.TheVariants.{A, B, Both, Either, Pair}
use Rattle.items.specs.declared.Scope.{Scope}
use Rattle.items.specs.declared.Scope.TheVariants.{Flight as FlightS, Pair as PairS}
use Rattle.items.specs.declared.Quantity.{Quantity}
use Rattle.items.specs.declared.Row.{Row}
use Rattle.items.specs.declared.Entry.{Entry}
use Rattle.items.specs.declared.Entry.TheVariants.{Any, Cell as CellE}
use Rattle.results.specs.declared.figure.Figure.{Figure}
use Rattle.text.specs.Fields.{rejoined}
use Rattle.text.specs.Forms.{rest_at}
use Rattle.text.specs.Words.{allowed, section_of}
use Rattle.text.specs.Lines.{Line, quantity_line, row_line, column_line, never_line, default_line, rows_after}
use Rattle.text.specs.declared.types.KindWord.{KindWord}
use Rattle.text.specs.declared.types.KindWord.TheVariants.{Measure, Names, Clock}
use Rattle.text.specs.declared.types.Word.{Word}
use Rattle.text.specs.declared.types.Word.TheVariants.{Flight, Pair as PairW, Row as RowW, Column, Never, Default, End}
use Rattle.text.specs.declared.types.Section.{Section}
use Rattle.text.specs.declared.types.Placed.{Placed}

-- a number that seven digits can write
abbrev pub seven_digits : ℤ → Bool
seven_digits (pos n) = nat_lt n 10000000
seven_digits (negsuc n) = nat_lt n 9999999

-- the last two digits of a number
abbrev pub two_digits : ℕ → List ℕ
two_digits n = (48 + n / 10 % 10) ∷ ((48 + n % 10) ∷ [])

-- a minute of the day, as `22:00`
abbrev pub time_text : ℕ → List ℕ
time_text t = two_digits (t / 60) ++ (58 ∷ two_digits (t % 60))

-- the words for modes, for kinds and for lines
abbrev pub mode_text : Mode → List ℕ
mode_text A = codes "A"
mode_text B = codes "B"
mode_text Both = codes "both"
mode_text Either = codes "either"
mode_text Pair = codes "pair"

abbrev pub kind_text : KindWord → List ℕ
kind_text Measure = codes "measure"
kind_text Names = codes "names"
kind_text Clock = codes "clock"

abbrev pub word_text : Word → List ℕ
word_text Flight = codes "flight"
word_text PairW = codes "pair"
word_text RowW = codes "row"
word_text Column = codes "column"
word_text Never = codes "never"
word_text Default = codes "default"
word_text End = codes "end"

-- a value: a measure with its sign, a name's number, or a time
abbrev pub value_text : Value → List ℕ
value_text (Left z) = signed_decimal z
value_text (Right (Left n)) = decimal n
value_text (Right (Right t)) = time_text t

-- the kind of a value
abbrev pub kind_of : Value → KindWord
kind_of (Left z) = Measure
kind_of (Right (Left n)) = Names
kind_of (Right (Right t)) = Clock

-- a value of a kind that a page can have
abbrev pub value_right : KindWord → Value → Bool
value_right Measure (Left z) = seven_digits z
value_right Measure (Right (Left n)) = false
value_right Measure (Right (Right t)) = false
value_right Names (Left z) = false
value_right Names (Right (Left n)) = nat_lt n 10000000
value_right Names (Right (Right t)) = false
value_right Clock (Left z) = false
value_right Clock (Right (Left n)) = false
value_right Clock (Right (Right t)) = nat_lt t 1440

-- a band, as `0..280`
abbrev pub band_text : ℤ → ℤ → List ℕ
band_text lo hi = signed_decimal lo ++ (46 ∷ (46 ∷ signed_decimal hi))

-- a band that means inside, or after a bang, outside
abbrev pub marked_text : Bool → ℤ → ℤ → List ℕ
marked_text true lo hi = band_text lo hi
marked_text false lo hi = 33 ∷ band_text lo hi

-- the names of a set, from `n` on: `k` names are looked at
abbrev pub names_in : ℕ → ℕ → ℕ → List ℕ
names_in zero n bits = []
names_in (suc k) n bits = cond (bits % 2 == 1) (n ∷ names_in k (suc n) (bits / 2)) (names_in k (suc n) (bits / 2))

-- a set, as `{0,3}`
abbrev pub names_text : ℕ → List ℕ
names_text bits = 123 ∷ (rejoined 44 (map decimal (names_in 32 0 bits)) ++ (125 ∷ []))

-- a window, as `22:00-05:59`
abbrev pub window_text : ℕ → ℕ → List ℕ
window_text start end = time_text start ++ (45 ∷ time_text end)

-- a cell
abbrev pub cell_text : Cell → List ℕ
cell_text (Left b) = marked_text b.inside b.lo b.hi
cell_text (Right (Left s)) = names_text s.bits
cell_text (Right (Right w)) = window_text w.start w.end

-- a cell that a page can have
abbrev pub cell_right : Cell → Bool
cell_right (Left b) = seven_digits b.lo && seven_digits b.hi
cell_right (Right (Left s)) = nat_lt s.bits 4294967296
cell_right (Right (Right w)) = nat_lt w.start 1440 && nat_lt w.end 1440

-- an entry: a dot for any, or a cell
abbrev pub entry_text : Entry Cell → List ℕ
entry_text Any = codes "."
entry_text (CellE c) = cell_text c

-- an entry that a page can have
abbrev pub entry_right : Entry Cell → Bool
entry_right Any = true
entry_right (CellE c) = cell_right c

-- the fields of a quantity: its kind, its least value and its greatest
abbrev pub quantity_fields : Quantity Value → List (List ℕ)
quantity_fields q = kind_text (kind_of q.least) ∷ (value_text q.least ∷ (value_text q.greatest ∷ []))

-- a quantity that a page can have: both values are of one kind
abbrev pub quantity_right : Quantity Value → Bool
quantity_right q = value_right (kind_of q.least) q.least && value_right (kind_of q.least) q.greatest

-- the fields of a row: its quantity's number and its mode
abbrev pub row_fields : Row → List (List ℕ)
row_fields r = decimal r.quantity ∷ (mode_text r.mode ∷ [])

-- a row that a page can have
abbrev pub row_right : Row → Bool
row_right r = nat_lt r.quantity 10000000

-- what a line says, wherever its fields stand
pub data Said : Type 0 where
  say_quantity : Quantity Value → Said
  say_row : Row → Said
  say_column : Figure → List (Entry Cell) → Said
  say_never : List (Entry Cell) → Said
  say_default : Figure → Said

-- an entry without its place
abbrev pub unplaced : List Placed → List (Entry Cell)
unplaced ps = map (λ p. p.entry) ps

-- what a line says, without the places
abbrev pub said : Line → Said
said (quantity_line q) = say_quantity q.quantity
said (row_line r) = say_row r.row
said (column_line x ps) = say_column x (unplaced ps)
said (never_line ps) = say_never (unplaced ps)
said (default_line x) = say_default x

-- the first word of a quantity's line
abbrev pub scope_word : Scope → Word
scope_word FlightS = Flight
scope_word PairS = PairW

-- the first word of a line
abbrev pub word_of : Said → Word
word_of (say_quantity q) = scope_word q.scope
word_of (say_row r) = RowW
word_of (say_column x es) = Column
word_of (say_never es) = Never
word_of (say_default x) = Default

-- its other fields
abbrev pub fields_of : Said → List (List ℕ)
fields_of (say_quantity q) = quantity_fields q
fields_of (say_row r) = row_fields r
fields_of (say_column x es) = signed_decimal x.value ∷ map entry_text es
fields_of (say_never es) = map entry_text es
fields_of (say_default x) = signed_decimal x.value ∷ []

-- the bytes of a line before its byte 10
abbrev pub line_body : Said → List ℕ
line_body x = rejoined 32 (word_text (word_of x) ∷ fields_of x)

-- the bytes of a line
abbrev pub line_text : Said → List ℕ
line_text x = line_body x ++ (10 ∷ [])

-- entries with their places, the first at byte `at`
abbrev pub placed_from : ℕ → List (Entry Cell) → List Placed
placed_from at [] = []
placed_from at (e ∷ es) = record { entry = e; byte = at } ∷ placed_from (at + length (entry_text e) + 1) es

-- a line with the places of its fields, the first after its word at byte `at`
abbrev pub located_at : ℕ → Said → Line
located_at at (say_quantity q) = quantity_line (record { quantity = q; least_byte = rest_at at (quantity_fields q) })
located_at at (say_row r) = row_line (record { row = r; quantity_byte = at; mode_byte = rest_at at (row_fields r) })
located_at at (say_column x es) = column_line x (placed_from (rest_at at (signed_decimal x.value ∷ map entry_text es)) es)
located_at at (say_never es) = never_line (placed_from at es)
located_at at (say_default x) = default_line x

-- a line with the places of its fields
abbrev pub located : Said → Line
located x = located_at (rest_at 1 (word_text (word_of x) ∷ fields_of x)) x

-- a line that a sheet of `n` rows can have
abbrev pub LineRight : ℕ → Said → Type 0
LineRight n (say_quantity q) = quantity_right q ≡ true
LineRight n (say_row r) = row_right r ≡ true
LineRight n (say_column x es) = (seven_digits x.value ≡ true) × (length es ≡ n) × (n ≤ 16) × AllByRecursion (λ e. entry_right e ≡ true) es
LineRight n (say_never es) = (length es ≡ n) × (n ≤ 16) × AllByRecursion (λ e. entry_right e ≡ true) es
LineRight n (say_default x) = seven_digits x.value ≡ true

-- lines that may follow one another, in a section and after `n` rows
abbrev pub Ordered : Section → ℕ → List Said → Type 0
Ordered s n [] = Unit {0}
Ordered s n (x ∷ xs) = (allowed s (word_of x) ≡ Some (section_of (word_of x))) × LineRight n x × Ordered (section_of (word_of x)) (rows_after (word_of x) n) xs

-- the text of a page: its lines, and then `end`
abbrev pub page_text : List Said → List ℕ
page_text xs = flat_map line_text xs ++ codes "end\n"

-- how many bytes a line has at most, with its byte 10
abbrev pub room : Said → ℕ
room (say_quantity q) = 33
room (say_row r) = 19
room (say_column x es) = 1600
room (say_never es) = 1590
room (say_default x) = 17

-- how many bytes lines have at most
abbrev pub rooms : List Said → ℕ
rooms [] = 0
rooms (x ∷ xs) = room x + rooms xs
