use Rattle.std.proofs.Common.{◌≡◌, ◌++◌, drop, string_bytes}
use Rattle.lists.specs.Held.{encounter_of}
use Rattle.reports.specs.Reports.{lines_shown}
use Rattle.printing.proofs.lines.add_lines.Given as goal

abbrev pub invariant-loop-i : goal.invariant-loop-i
invariant-loop-i l = string_bytes l.text ++ lines_shown l.i (encounter_of l.e) (drop l.i l.quantities) ≡ string_bytes l.initial.text ++ lines_shown 0 (encounter_of l.e) l.quantities
