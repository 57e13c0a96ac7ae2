-- What a reader has before it. Assumes nothing.
use Rattle.std.specs.Prelude.{ℕ, ◌+◌, List, drop}
use Rattle.text.specs.Fields.{fields_from}
use Rattle.text.specs.Pages.{lined}
use Rattle.lines.specs.declared.cursor.Fields.{Fields}
use Rattle.lines.specs.declared.reader.Reader.{Reader}

-- the fields of a line that are left
abbrev pub left : Fields → List (List ℕ)
left s = fields_from s.line.now s.at

-- the byte at which the next one starts, counted from 1
abbrev pub byte : Fields → ℕ
byte s = s.at + 1

-- the lines of a page that are left
abbrev pub ahead : Reader → List (List ℕ)
ahead r = lined (drop r.at r.page.now)
