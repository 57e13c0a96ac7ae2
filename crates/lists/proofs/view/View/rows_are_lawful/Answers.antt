use Rattle.std.proofs.Common.{take, rules, tests}
use Rattle.std.proofs.lemmas.Iterator.{YieldsList-from_slice}
use Rattle.tables.specs.Acceptance.{row_lawful}
use Rattle.lists.proofs.Chains.{all_of_chain}
use Rattle.lists.proofs.view.View.rows_are_lawful.Goals as goal

pub returns : goal.returns
returns g c =
    let v = c.args.self.now in
    all_of_chain (row_lawful g.K.Kind.meaning (take v.counts.quantities v.quantities.now)) _ _ _ c.all.ensures.ran (YieldsList-from_slice _ (cc)) (λ x b q k. search (rules, tests))
