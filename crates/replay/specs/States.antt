-- The state and the counts of a sheet. Assumes nothing.
use Rattle.items.specs.declared.Counts.{Counts}
use Rattle.tables.specs.Calls.{Status, draft, issued}
use Rattle.replay.specs.declared.state.Sheet.{Sheet}
use Rattle.replay.specs.declared.state.Sheet.TheVariants.{Draft, Issued}

abbrev pub status_of : Sheet → Status
status_of (Draft s) = draft
status_of (Issued s) = issued

abbrev pub counts_of : Sheet → Counts
counts_of (Draft s) = s.counts
counts_of (Issued s) = s.counts
