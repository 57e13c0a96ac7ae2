-- What a report tells. Assumes nothing.
use Rattle.std.specs.Prelude.{◌≡◌, ℕ, Bool, List, string_bytes}
use Rattle.page.specs.declared.told.Report.{Report}

-- the text that is printed, and whether the sheet is issued
abbrev pub Tells : List ℕ → Bool → Report → Type 0
Tells text issued report = (string_bytes report.text ≡ text) × (report.issued ≡ issued)
