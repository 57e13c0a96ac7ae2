-- The number of each refusal of a page, and the layer that gave it. Assumes nothing.
use Rattle.std.specs.Prelude.{cond, ◌||◌, ℕ, eqb}
use Rattle.faults.specs.Numbers.{sheet_number}
use Rattle.page_faults.specs.declared.Layer.{Layer}
use Rattle.page_faults.specs.declared.Layer.TheVariants.{OfPage, OfKind, OfSheet}
use Rattle.page_faults.specs.declared.PageFault.{PageFault}
use Rattle.page_faults.specs.declared.PageFault.TheVariants.{TooLong, NotEnded, Word, Form, Call}
use Rattle.page_faults.specs.declared.WriteFault.{WriteFault}
use Rattle.page_faults.specs.declared.WriteFault.TheVariants.{Call as CallIn, NoRoom}

abbrev pub page_number : PageFault → ℕ
page_number TooLong = 24
page_number NotEnded = 25
page_number Word = 26
page_number Form = 27
page_number (Call f) = sheet_number f

abbrev pub write_number : WriteFault → ℕ
write_number (CallIn f) = sheet_number f
write_number NoRoom = 28

-- 24 to 27 come from the page, 3 and 11 from the kind of condition, all others from the sheet
abbrev pub layer_of : PageFault → Layer
layer_of TooLong = OfPage
layer_of NotEnded = OfPage
layer_of Word = OfPage
layer_of Form = OfPage
layer_of (Call f) = cond (eqb (sheet_number f) 3 || eqb (sheet_number f) 11) OfKind OfSheet
