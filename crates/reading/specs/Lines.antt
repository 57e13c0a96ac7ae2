-- What is read of a page, line by line. Assumes nothing.
use Rattle.std.specs.Prelude.{ℕ, ◌+◌, List, Some, None, Ok, Err, Option, Result}
use Rattle.items.specs.declared.Counts.{Counts}
use Rattle.page_faults.specs.declared.LineFault.{LineFault}
use Rattle.page_faults.specs.declared.PageRefusal.{PageRefusal}
use Rattle.sheet.specs.declared.states.Draft.{Draft}
use Rattle.text.specs.Pages.{Refused, wrong_word}
use Rattle.text.specs.declared.types.Section.{Section}
use Rattle.text.specs.declared.types.Word.{Word}
use Rattle.pages.specs.Reads.{Went, PageLists, on_line, read_lines}

-- the word of line k and the section after it, where there is one that may stand there
abbrev pub word_or : ℕ → Option (Word × Section) → Result (Word × Section) Refused
word_or k (Some p) = Ok p
word_or k None = Err (wrong_word k)

-- the lines after line k, unless that was refused
abbrev pub read_on : ℕ → Result Section LineFault → Counts → PageLists → List (List ℕ) → Went PageRefusal
read_on k (Ok s) n l rest = read_lines s (k + 1) rest n l
read_on k (Err f) n l rest = record { answer = Err (on_line k f); lists = l }

-- what lines that were read to their end, or to the first refusal, come to
abbrev pub ended : Result (Unit {0}) PageRefusal → Counts → PageLists → Went PageRefusal
ended (Ok t) n l = record { answer = Ok n; lists = l }
ended (Err f) n l = record { answer = Err f; lists = l }

-- how much of the lists a draft uses
abbrev pub counted : Result Draft PageRefusal → Result Counts PageRefusal
counted (Ok d) = Ok d.counts
counted (Err f) = Err f
