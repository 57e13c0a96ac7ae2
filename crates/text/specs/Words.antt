-- The words of a page, and the values of each kind. Assumes nothing.
use Rattle.std.specs.Prelude.{ℕ, cond, ◌&&◌, List, [], ◌∷◌, ℤ, Some, None, codes, Option, nat_le, nat_lt}
use Rattle.std.specs.Str.{bytes_eq}
use Rattle.joined.specs.declared.Either.TheVariants.{Left, Right}
use Rattle.house.specs.House.{Value}
use Rattle.items.specs.declared.Mode.{Mode}
use Rattle.items.specs.declared.Mode.TheVariants.{A, B, Both, Either, Pair}
use Rattle.text.specs.Numbers.{number, measure, time}
use Rattle.text.specs.declared.types.KindWord.{KindWord}
use Rattle.text.specs.declared.types.KindWord.TheVariants.{Measure, Names, Clock}
use Rattle.text.specs.declared.types.Word.{Word}
use Rattle.text.specs.declared.types.Word.TheVariants.{Flight, Pair as PairW, Row as RowW, Column, Never, Default, End}
use Rattle.text.specs.declared.types.Section.{Section}
use Rattle.text.specs.declared.types.Section.TheVariants.{Quantities, Rows, Columns, Nevers, Ends}

-- the meaning of a word, by a table of words
abbrev pub worded : {X : Type 0} → List (List ℕ × X) → List ℕ → Option X
worded [] bs = None
worded (p ∷ ps) bs = cond (bytes_eq bs p.0) (Some p.1) (worded ps bs)

-- how a row tests its quantity
abbrev pub modes : List (List ℕ × Mode)
modes = (codes "A", A) ∷ ((codes "B", B) ∷ ((codes "both", Both) ∷ ((codes "either", Either) ∷ ((codes "pair", Pair) ∷ []))))

-- the mode that a field names
abbrev pub mode : List ℕ → Option Mode
mode = worded modes

-- the kinds of condition
abbrev pub kinds : List (List ℕ × KindWord)
kinds = (codes "measure", Measure) ∷ ((codes "names", Names) ∷ ((codes "clock", Clock) ∷ []))

-- the kind that a field names
abbrev pub kind : List ℕ → Option KindWord
kind = worded kinds

-- a measure, a name or a minute, as a value of the house
abbrev pub measure_value : ℤ → Value
measure_value z = Left z

abbrev pub name_value : ℕ → Value
name_value n = Right (Left n)

abbrev pub minute_value : ℕ → Value
minute_value t = Right (Right t)

-- what a function makes of what is there
abbrev pub each : {X Y : Type 0} → (X → Y) → Option X → Option Y
each f (Some x) = Some (f x)
each f None = None

-- a value of a kind: names stand by their numbers
abbrev pub value : KindWord → List ℕ → Option Value
value Measure bs = each measure_value (measure bs)
value Names bs = each name_value (number bs)
value Clock bs = each minute_value (time bs)

-- the first words of lines
abbrev pub first_words : List (List ℕ × Word)
first_words = (codes "flight", Flight) ∷ ((codes "pair", PairW) ∷ ((codes "row", RowW) ∷ ((codes "column", Column) ∷ ((codes "never", Never) ∷ ((codes "default", Default) ∷ ((codes "end", End) ∷ []))))))

-- the first word that a field is
abbrev pub first_word : List ℕ → Option Word
first_word = worded first_words

-- sections in the order of a page; after a default only `end` is left
abbrev pub rank : Section → ℕ
rank Quantities = 0
rank Rows = 1
rank Columns = 2
rank Nevers = 3
rank Ends = 5

-- the words of lines in the order of a page
abbrev pub place : Word → ℕ
place Flight = 0
place PairW = 0
place RowW = 1
place Column = 2
place Never = 3
place Default = 4
place End = 5

-- the section of a line with this word: lines of it and of later ones may follow
abbrev pub section_of : Word → Section
section_of Flight = Quantities
section_of PairW = Quantities
section_of RowW = Rows
section_of Column = Columns
section_of Never = Nevers
section_of Default = Ends
section_of End = Ends

-- the section after a line that is not the last, where its word may stand there
abbrev pub allowed : Section → Word → Option Section
allowed s w = cond (nat_le (rank s) (place w) && nat_lt (place w) 5) (Some (section_of w)) None
