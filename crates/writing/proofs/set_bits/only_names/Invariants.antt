use Rattle.std.proofs.Common.{take}
use Rattle.std.specs.List.{AllByRecursion}
use Rattle.pages.specs.NameBits.{EntryOnlyNames}
use Rattle.writing.proofs.set_bits.only_names.Given as goal

abbrev pub invariant-loop-entry : goal.invariant-loop-entry
invariant-loop-entry l = AllByRecursion EntryOnlyNames (take l.entry-index l.entries)
