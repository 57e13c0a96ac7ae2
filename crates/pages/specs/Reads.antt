-- Reading a page: its lines in turn, each with its draft calls, down to the first refusal. Assumes nothing.
use Rattle.std.specs.Prelude.{ℕ, suc, ◌+◌, false, cond, List, [], ◌∷◌, length, Some, None, Ok, Err, Option, Result, ◌==◌, nat_le}
use Rattle.house.specs.House.{Value, Cell, house}
use Rattle.items.specs.declared.Counts.{Counts}
use Rattle.results.specs.declared.figure.Figure.{Figure}
use Rattle.results.specs.Figures.{figures}
use Rattle.faults.specs.Numbers.{sheet_number}
use Rattle.faults.specs.declared.SheetFault.{SheetFault}
use Rattle.faults.specs.declared.SheetFault.TheVariants.{Lists as WrongLists}
use Rattle.page_faults.specs.declared.PageFault.{PageFault}
use Rattle.page_faults.specs.declared.PageFault.TheVariants.{TooLong, NotEnded, Word as WrongWord, Form, Call as Denied}
use Rattle.page_faults.specs.declared.LineFault.{LineFault}
use Rattle.page_faults.specs.declared.PageRefusal.{PageRefusal}
use Rattle.tables.specs.Answers.{edit_answer}
use Rattle.tables.specs.Calls.{Edit, name_quantity, add_row, add_column, add_never, set_cell, set_default}
use Rattle.tables.specs.Storage.{Lists, counts_after, lists_after, in_order}
use Rattle.text.specs.Fields.{parted}
use Rattle.text.specs.Lines.{Line, quantity_line, row_line, column_line, never_line, default_line}
use Rattle.text.specs.Pages.{Refused, too_long, not_closed, wrong_word, wrong_field, line_at, closed, before}
use Rattle.text.specs.declared.types.Placed.{Placed}
use Rattle.text.specs.declared.types.Section.{Section}
use Rattle.text.specs.declared.types.Section.TheVariants.{Quantities}
use Rattle.text.specs.declared.types.Word.{Word}

-- the lists of a page's sheet: figures over the joined house kinds
abbrev pub PageLists : Type 0
PageLists = Lists Value Cell Figure

-- the byte that a refusal with this number tells, and 1 for every other
abbrev pub tells : ℕ → ℕ → SheetFault → ℕ
tells number byte f = cond (sheet_number f == number) byte 1

-- a draft call that a line asks for, and the byte that its refusal tells
pub record Asked : Type 0 where
  pub edit : Edit Value Cell Figure
  pub byte : SheetFault → ℕ

-- the entries of a column, from row i on; one that is not lawful (11) tells where it stands
abbrev pub cells_from : ℕ → ℕ → List Placed → List Asked
cells_from column i [] = []
cells_from column i (p ∷ ps) = record { edit = set_cell i column p.entry; byte = tells 11 p.byte } ∷ cells_from column (suc i) ps

-- The draft calls of a line, on a sheet with these counts. An unlawful range (3) tells its least value, a quantity that is
-- not there (5) its number, a mode that does not fit (6) the mode, an unlawful result (9) where it stands, which is right
-- after the line's first word.
abbrev pub calls_of : Counts → Line → List Asked
calls_of n (quantity_line q) = record { edit = name_quantity q.quantity; byte = tells 3 q.least_byte } ∷ []
calls_of n (row_line r) = record { edit = add_row r.row; byte = λ f. cond (sheet_number f == 5) r.quantity_byte (tells 6 r.mode_byte f) } ∷ []
calls_of n (column_line x ps) = record { edit = add_column x; byte = tells 9 8 } ∷ cells_from n.columns 0 ps
calls_of n (never_line ps) = record { edit = add_never; byte = λ f. 1 } ∷ cells_from (16 + n.nevers) 0 ps
calls_of n (default_line x) = record { edit = set_default x; byte = tells 9 9 } ∷ []

-- what came of calls: the counts after them, or the refusal of the first that was denied; and the lists
pub record Went (E : Type 0) : Type 0 where
  pub answer : Result Counts E
  pub lists : PageLists

-- a call that was asked its questions: where none is answered no it is made, and those after it follow
abbrev pub step : Option SheetFault → Asked → Counts → PageLists → (Counts → PageLists → Went LineFault) → Went LineFault
step None k n l next = next (counts_after k.edit n) (lists_after k.edit n l)
step (Some f) k n l next = record { answer = Err (record { fault = Denied f; byte = k.byte f }); lists = l }

-- calls in turn, down to the first that is denied
abbrev pub make_all : List Asked → Counts → PageLists → Went LineFault
make_all [] n l = record { answer = Ok n; lists = l }
make_all (k ∷ ks) n l = step (edit_answer house figures n l k.edit) k n l (make_all ks)

-- why and where a page is not right in its text
abbrev pub refusal_of : Refused → PageRefusal
refusal_of too_long = record { fault = TooLong; line = 1; byte = 1 }
refusal_of not_closed = record { fault = NotEnded; line = 1; byte = 1 }
refusal_of (wrong_word k) = record { fault = WrongWord; line = k; byte = 1 }
refusal_of (wrong_field k byte) = record { fault = Form; line = k; byte = byte }

abbrev pub on_line : ℕ → LineFault → PageRefusal
on_line k f = record { fault = f.fault; line = k; byte = f.byte }

-- what follows the calls of line k, where none of them was denied
abbrev pub after_calls : ℕ → Result Counts LineFault → PageLists → (Counts → PageLists → Went PageRefusal) → Went PageRefusal
after_calls k (Ok n) l next = next n l
after_calls k (Err f) l next = record { answer = Err (on_line k f); lists = l }

-- the calls of line k, where it is right in its text, and what follows them
abbrev pub after_line : ℕ → Result (Line × Word × Section) Refused → Counts → PageLists → (Section → Counts → PageLists → Went PageRefusal) → Went PageRefusal
after_line k (Ok p) n l next = let made = make_all (calls_of n p.0) n l in after_calls k made.answer made.lists (next p.2)
after_line k (Err f) n l next = record { answer = Err (refusal_of f); lists = l }

-- the lines from line k on, in a section
abbrev pub read_lines : Section → ℕ → List (List ℕ) → Counts → PageLists → Went PageRefusal
read_lines s k [] n l = record { answer = Ok n; lists = l }
read_lines s k (line ∷ rest) n l = after_line k (line_at s n.rows k (parted 32 line)) n l (λ t. read_lines t (k + 1) rest)

-- the counts of a draft without any contents
abbrev pub no_counts : Counts
no_counts = record { quantities = 0; rows = 0; columns = 0; nevers = 0; default = false }

abbrev pub refused_at_once : PageFault → PageLists → Went PageRefusal
refused_at_once f l = record { answer = Err (record { fault = f; line = 1; byte = 1 }); lists = l }

-- a page: the lists' lengths, its size, its last line, and then its lines
abbrev pub read_page : List ℕ → PageLists → Went PageRefusal
read_page page l =
    cond (in_order house figures no_counts l)
    (cond (nat_le (length page) 65536)
    (cond (closed page) (read_lines Quantities 1 (before page) no_counts l) (refused_at_once NotEnded l))
    (refused_at_once TooLong l))
    (refused_at_once (Denied WrongLists) l)
