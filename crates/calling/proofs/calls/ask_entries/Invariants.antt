use Rattle.std.proofs.Common.{◌≡◌, drop}
use Rattle.lists.specs.Held.{SameLists, lists_of}
use Rattle.pages.specs.Reads.{cells_from, make_all}
use Rattle.calling.proofs.calls.ask_entries.Given as goal

abbrev pub invariant-loop-row : goal.invariant-loop-row
invariant-loop-row l =
    (make_all (cells_from l.column l.row (drop l.row l.said)) l.draft.counts (lists_of l.lists)
    ≡ make_all (cells_from l.column 0 l.said) l.initial.draft.counts (lists_of l.initial.lists))
    × SameLists l.initial.lists l.lists
