use Rattle.std.proofs.Common.{◌≡◌, length, take}
use Rattle.tables.specs.Storage.{column_of}
use Rattle.writing.proofs.gathering.gathered.Given as goal

abbrev pub invariant-loop-i : goal.invariant-loop-i
invariant-loop-i l = (length l.all ≡ 16) × (take l.i l.all ≡ column_of l.view.entries.now l.i l.column)
