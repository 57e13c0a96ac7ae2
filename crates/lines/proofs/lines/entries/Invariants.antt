use Rattle.std.proofs.Common.{◌≡◌, ◌-◌, length, take}
use Rattle.text.specs.Lines.{in_row}
use Rattle.text.proofs.LineSteps.{following}
use Rattle.lines.specs.Left.{left, byte}
use Rattle.lines.proofs.lines.entries.Given as goal

abbrev pub invariant-loop-place : goal.invariant-loop-place
invariant-loop-place l =
    (following (take l.place-index l.place-items) (in_row (l.count - l.place-index) (byte l.fields) (left l.fields))
    ≡ in_row l.count (byte l.initial.fields) (left l.initial.fields))
    × (length l.place-items ≡ l.count)
