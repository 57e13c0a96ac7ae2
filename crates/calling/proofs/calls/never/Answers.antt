use Rattle.std.proofs.Common.{◌∷◌, take, sym, ap, ◌∙◌}
use Rattle.lines.specs.Left.{left, byte}
use Rattle.lists.specs.Held.{lists_of}
use Rattle.pages.specs.Reads.{cells_from}
use Rattle.text.specs.Lines.{never_line, entries}
use Rattle.asking.specs.Asks.{asked_of}
use Rattle.calling.proofs.Said.{said-is, line-goes, never-said}
use Rattle.calling.proofs.calls.never.Goals as goal

pub returns-clause-went : goal.returns-clause-went
returns-clause-went c =
    let n = c.args.draft.now.counts in
    let s = c.args.fields.now in
    let m = c.counts-rows.result.rows in
    let out = c.entries.new.out in
    let k = asked_of c.never.result in
    let e = said-is c.entries.result c.map_err.result _ tt c.map_err.ensures.cases c.in_ok-map_err.was ∙ c.entries.ensures.value in
    line-goes (entries n.rows (byte s) (left s)) (take m out) (never_line) (k ∷ cells_from c.next_never-column.result 0 (take m out)) n c.add.new.draft.counts (lists_of c.args.lists.now) (lists_of c.add.new.lists) c.add.result
    (never-said m (byte s) (left s) out e c.entries.ensures.kept ∙ ap (λ n. entries n.rows (byte s) (left s)) c.counts-rows.ensures)
    (c.never.ensures n (take m out) ∙ ap (λ j. k ∷ cells_from j 0 (take m out)) (sym c.next_never-column.ensures))
    c.add.ensures.went
