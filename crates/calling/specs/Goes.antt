-- What the calls of a line come to. Assumes nothing.
use Rattle.std.specs.Prelude.{ℕ, List, Ok, Err, Result}
use Rattle.items.specs.declared.Counts.{Counts}
use Rattle.page_faults.specs.declared.LineFault.{LineFault}
use Rattle.page_faults.specs.declared.PageFault.TheVariants.{Form}
use Rattle.text.specs.Lines.{Line}
use Rattle.pages.specs.Reads.{Asked, Went, PageLists, calls_of, make_all}

-- calls that follow, unless one before them was denied
abbrev pub follows : Result (Unit {0}) LineFault → Counts → PageLists → List Asked → Went LineFault
follows (Ok t) n l ks = make_all ks n l
follows (Err f) n l ks = record { answer = Err f; lists = l }

-- the calls of a line that is right in its text
abbrev pub line_goes : Result Line ℕ → Counts → PageLists → Went LineFault
line_goes (Ok line) n l = make_all (calls_of n line) n l
line_goes (Err byte) n l = record { answer = Err (record { fault = Form; byte = byte }); lists = l }
