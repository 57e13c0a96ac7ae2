use Rattle.lists.specs.Held.{lists_of}
use Rattle.house.specs.House.{house}
use Rattle.results.specs.Figures.{figures}
use Rattle.tables.specs.Answers.{edit_answer}
use Rattle.asking.specs.Asks.{asked_of}
use Rattle.std.proofs.Common.{rules}
use Rattle.calling.proofs.Steps.{call-told}
use Rattle.calling.proofs.calls.ask.Goals as goal

pub returns-clause-went : goal.returns-clause-went
returns-clause-went c =
    let k = asked_of c.args.asked in
    let n = c.args.draft.now.counts in
    let l = lists_of c.args.lists.now in
    let h = c.make.ensures in
    call-told k n c.make.new.self.counts l (lists_of c.make.new.lists) _ (λ f d p. search rules) (edit_answer house figures n l k.edit) c.make.result c.map_err.result h.made.answer c.map_err.ensures.cases h.made.left.counts h.made.left.lists
