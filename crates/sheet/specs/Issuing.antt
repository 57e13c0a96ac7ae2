-- What issue gives. Assumes nothing.
use Rattle.std.specs.Prelude.{◌≡◌, ℕ, Ok, Err, Result}
use Rattle.items.specs.declared.Counts.{Counts}
use Rattle.tables.specs.Calls.{Status, draft, issued}
use Rattle.faults.specs.declared.SheetFault.{SheetFault}
use Rattle.sheet.specs.declared.states.Draft.{Draft}
use Rattle.sheet.specs.declared.states.Issued.{Issued}

-- by the answer: an issued sheet that uses the same of the lists, and its count; or the draft itself, and the refusal
abbrev pub IssuedBy : Result ℕ SheetFault → Draft → Result (Issued × ℕ) (Draft × SheetFault) → Type 0
IssuedBy answer before (Ok sheet) = (answer ≡ Ok sheet.1) × (sheet.0.counts ≡ before.counts)
IssuedBy answer before (Err back) = (answer ≡ Err back.1) × (back.0.counts ≡ before.counts)

-- what it tells, and the state and the counts of the sheet that it gives
abbrev pub said_by : Result (Issued × ℕ) (Draft × SheetFault) → Result ℕ SheetFault
said_by (Ok sheet) = Ok sheet.1
said_by (Err back) = Err back.1

abbrev pub status_by : Result (Issued × ℕ) (Draft × SheetFault) → Status
status_by (Ok sheet) = issued
status_by (Err back) = draft

abbrev pub counts_by : Result (Issued × ℕ) (Draft × SheetFault) → Counts
counts_by (Ok sheet) = sheet.0.counts
counts_by (Err back) = back.0.counts
