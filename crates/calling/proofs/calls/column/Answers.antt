use Rattle.std.proofs.Common.{◌∷◌, take, sym, ap, ◌∙◌}
use Rattle.lines.specs.Left.{left, byte}
use Rattle.lists.specs.Held.{lists_of}
use Rattle.pages.specs.Reads.{cells_from}
use Rattle.text.specs.Lines.{column_line, column}
use Rattle.asking.specs.Asks.{asked_of}
use Rattle.calling.proofs.Said.{said-is, line-goes, column-said}
use Rattle.calling.proofs.calls.column.Goals as goal

pub returns-clause-went : goal.returns-clause-went
returns-clause-went c =
    let n = c.args.draft.now.counts in
    let s = c.args.fields.now in
    let m = c.counts-rows.result.rows in
    let out = c.column_line.new.out in
    let f = c.in_ok-figure.figure in
    let k = asked_of c.column.result in
    let e = said-is c.column_line.result c.map_err.result _ f c.map_err.ensures.cases c.in_ok-figure.was ∙ c.column_line.ensures.value in
    line-goes (column n.rows (byte s) (left s)) (f, take m out) (λ p. column_line p.0 p.1) (k ∷ cells_from c.counts-column.result.columns 0 (take m out)) n c.add.new.draft.counts (lists_of c.args.lists.now) (lists_of c.add.new.lists) c.add.result
    (column-said m (byte s) (left s) f out e c.column_line.ensures.kept ∙ ap (λ n. column n.rows (byte s) (left s)) c.counts-rows.ensures)
    (c.column.ensures n (take m out) ∙ ap (λ j. k ∷ cells_from j 0 (take m out)) (sym (ap (λ n. n.columns) c.counts-column.ensures)))
    c.add.ensures.went
