use Rattle.std.proofs.Common.{◌+◌, drop, sym, ◌∙◌}
use Rattle.lists.specs.Held.{lists_of}
use Rattle.pages.specs.Reads.{cells_from}
use Rattle.asking.specs.Asks.{asked_of}
use Rattle.calling.proofs.Steps.{exited, left-more, calls-stop}
use Rattle.calling.proofs.calls.ask_entries.Goals as goal

pub returns-in_err-ask-clause-went : goal.returns-in_err-ask-clause-went
returns-in_err-ask-clause-went c =
    let i = c.loop-row.row in
    let j = c.args.column in
    let ps = c.args.said.now in
    let k = asked_of c.entry.result in
    let f = c.in_err-ask.field-0.0 in
    let r = c.from_residual.result in
    let is = left-more j i ps _ k c.loop-row-test.true c.entry.ensures in
    sym c.loop-row.invariant.0
    ∙ calls-stop (cells_from j i (drop i ps)) k (cells_from j (i + 1) (drop (i + 1) ps)) c.loop-row.draft.counts c.ask.new.draft.counts (lists_of c.loop-row.lists) (lists_of c.ask.new.lists) is f r c.in_err-ask.ensures.went (exited r f c.from_residual.ensures.1)
