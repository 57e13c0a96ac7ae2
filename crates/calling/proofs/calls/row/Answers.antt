use Rattle.std.proofs.Common.{[], ◌∷◌, ◌∙◌}
use Rattle.lines.specs.Left.{left, byte}
use Rattle.lists.specs.Held.{lists_of}
use Rattle.text.specs.Lines.{row, row_line}
use Rattle.asking.specs.Asks.{asked_of}
use Rattle.calling.proofs.Said.{said-is, line-goes}
use Rattle.calling.proofs.calls.row.Goals as goal

pub returns-clause-went : goal.returns-clause-went
returns-clause-went c =
    let n = c.args.draft.now.counts in
    let s = c.args.fields.now in
    let said = c.in_ok-said.said in
    line-goes (row (byte s) (left s)) said row_line (asked_of c.row.result ∷ []) n c.ask.new.draft.counts (lists_of c.args.lists.now) (lists_of c.ask.new.lists) c.ask.result
    (said-is c.row_line.result c.map_err.result _ said c.map_err.ensures.cases c.in_ok-said.was ∙ c.row_line.ensures) (c.row.ensures n) (c.ask.ensures.went [])
