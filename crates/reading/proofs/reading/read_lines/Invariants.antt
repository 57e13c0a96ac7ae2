use Rattle.std.proofs.Common.{◌≡◌, ◌+◌, ◌-◌, length}
use Rattle.lines.specs.Left.{ahead}
use Rattle.lists.specs.Held.{SameLists, lists_of}
use Rattle.pages.specs.Reads.{read_lines}
use Rattle.text.specs.declared.types.Section.TheVariants.{Quantities}
use Rattle.reading.proofs.reading.read_lines.Given as goal

-- what is read from here on is what the lines come to
abbrev pub invariant-loop-line : goal.invariant-loop-line
invariant-loop-line l =
    (read_lines l.section l.reader.line (ahead l.reader) l.draft.counts (lists_of l.lists)
    ≡ read_lines Quantities l.initial.reader.line (ahead l.initial.reader) l.initial.draft.counts (lists_of l.initial.lists))
    × SameLists l.initial.lists l.lists × (l.reader.page.now ≡ l.initial.reader.page.now)

abbrev pub decreases-loop-line : goal.decreases-loop-line
decreases-loop-line l = length l.initial.reader.page.now + 1 - l.reader.at
