-- The draft calls of a line as the reader keeps them. Assumes nothing.
use Rattle.std.specs.Prelude.{ℕ, cond, ◌==◌}
use Rattle.faults.specs.Numbers.{sheet_number}
use Rattle.faults.specs.declared.SheetFault.{SheetFault}
use Rattle.edits.specs.Meant.{edit_of}
use Rattle.pages.specs.Reads.{Asked, tells}
use Rattle.asking.specs.declared.asked.Asked.{Asked as Kept}
use Rattle.asking.specs.declared.asked.Wrong.{Wrong}
use Rattle.asking.specs.declared.asked.Wrong.TheVariants.{Nowhere, Range, Row, Figure, Entry}

-- the byte of the field that a refusal finds wrong: of an unlawful range (3) its least value, of a quantity that is not
-- there (5) its number, of a mode that does not fit (6) the mode, of an unlawful result (9) or entry (11) itself
abbrev pub byte_of : Wrong → SheetFault → ℕ
byte_of Nowhere f = 1
byte_of (Range byte) f = tells 3 byte f
byte_of (Row quantity mode) f = cond (sheet_number f == 5) quantity (tells 6 mode f)
byte_of (Figure byte) f = tells 9 byte f
byte_of (Entry byte) f = tells 11 byte f

-- the draft call that a line asks for
abbrev pub asked_of : Kept → Asked
asked_of k = record { edit = edit_of k.edit; byte = byte_of k.wrong }
