-- Writing a sheet as a page into a buffer. Assumes nothing.
use Rattle.std.specs.Prelude.{ℕ, cond, List, [], ◌∷◌, ◌++◌, map, length, drop, Some, None, Ok, Err, Option, Result, nat_le}
use Rattle.house.specs.House.{Value, Cell, house}
use Rattle.items.specs.declared.Counts.{Counts}
use Rattle.results.specs.declared.figure.Figure.{Figure}
use Rattle.results.specs.Figures.{figures}
use Rattle.faults.specs.declared.SheetFault.TheVariants.{Lists as WrongLists}
use Rattle.page_faults.specs.declared.WriteFault.{WriteFault}
use Rattle.page_faults.specs.declared.WriteFault.TheVariants.{Call as Denied, NoRoom}
use Rattle.tables.specs.Contents.{Contents}
use Rattle.tables.specs.Storage.{contents_of, in_order}
use Rattle.text.specs.Texts.{Said, say_quantity, say_row, say_column, say_never, say_default, page_text}
use Rattle.pages.specs.Reads.{PageLists}

abbrev pub default_lines : Option Figure → List Said
default_lines None = []
default_lines (Some x) = say_default x ∷ []

-- what the lines of a sheet's page say: quantities, rows, columns, nevers, and a default if there is one
abbrev pub lines_of : Contents Value Cell Figure → List Said
lines_of c =
    map say_quantity c.quantities ++ (map say_row c.rows ++
    (map (λ k. say_column k.result k.entries) c.columns ++ (map say_never c.nevers ++ default_lines c.default)))

-- the page of a sheet, byte for byte
abbrev pub text_of : Contents Value Cell Figure → List ℕ
text_of c = page_text (lines_of c)

-- a text put in front of a buffer: its length, where the buffer has room for all of it
abbrev pub room_answer : List ℕ → List ℕ → Result ℕ WriteFault
room_answer text out = cond (nat_le (length text) (length out)) (Ok (length text)) (Err NoRoom)

-- the buffer afterwards: the text in front and the bytes after it as they were, or nothing changed
abbrev pub room_leaves : List ℕ → List ℕ → List ℕ
room_leaves text out = cond (nat_le (length text) (length out)) (text ++ drop (length text) out) out

module _ (n : Counts) (l : PageLists) (out : List ℕ) where
  -- the page's length, where the lists are in order and it fits the buffer
  abbrev pub write_answer : Result ℕ WriteFault
  write_answer = cond (in_order house figures n l) (room_answer (text_of (contents_of n l)) out) (Err (Denied WrongLists))

  -- the buffer afterwards
  abbrev pub write_leaves : List ℕ
  write_leaves = cond (in_order house figures n l) (room_leaves (text_of (contents_of n l)) out) out
