-- What withdraw gives. Assumes nothing.
use Rattle.std.specs.Prelude.{◌≡◌, Bool, true, false, Some, None, Ok, Err, Option, Result}
use Rattle.items.specs.declared.Counts.{Counts}
use Rattle.tables.specs.Calls.{Status, draft, issued}
use Rattle.faults.specs.declared.SheetFault.{SheetFault}
use Rattle.faults.specs.declared.SheetFault.TheVariants.{Lists}
use Rattle.sheet.specs.declared.states.Draft.{Draft}
use Rattle.sheet.specs.declared.states.Issued.{Issued}

-- where the first question is answered yes, the draft that uses the same of the lists; else the issued sheet itself, and a refusal
abbrev pub Withdrawn : Bool → Issued → Result Draft (Issued × SheetFault) → Type 0
Withdrawn first sheet (Ok free) = (first ≡ true) × (free.counts ≡ sheet.counts)
Withdrawn first sheet (Err back) = (first ≡ false) × (back.0.counts ≡ sheet.counts) × (back.1 ≡ Lists)

-- the refusal that it tells, and the state and the counts of the sheet that it gives
abbrev pub refusal_by : Result Draft (Issued × SheetFault) → Option SheetFault
refusal_by (Ok free) = None
refusal_by (Err back) = Some back.1

abbrev pub status_by : Result Draft (Issued × SheetFault) → Status
status_by (Ok free) = draft
status_by (Err back) = issued

abbrev pub counts_by : Result Draft (Issued × SheetFault) → Counts
counts_by (Ok free) = free.counts
counts_by (Err back) = back.0.counts
