use Rattle.std.proofs.Common.{◌∷◌, refl}
use Rattle.lists.specs.Held.{lists_of}
use Rattle.pages.specs.Reads.{cells_from}
use Rattle.asking.specs.Asks.{asked_of}
use Rattle.calling.proofs.Steps.{exited, calls-stop}
use Rattle.calling.proofs.calls.add.Goals as goal

pub returns-in_err-ask-clause-went : goal.returns-in_err-ask-clause-went
returns-in_err-ask-clause-went c =
    let k = asked_of c.args.added in
    let more = cells_from c.args.column 0 c.args.said.now in
    let f = c.in_err-ask.field-0.0 in
    let r = c.from_residual.result in
    calls-stop (k ∷ more) k more c.args.draft.now.counts c.ask.new.draft.counts (lists_of c.args.lists.now) (lists_of c.ask.new.lists) refl f r c.in_err-ask.ensures.went (exited r f c.from_residual.ensures.1)
