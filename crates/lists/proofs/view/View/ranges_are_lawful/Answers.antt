use Rattle.std.proofs.Common.{rules, tests}
use Rattle.std.proofs.lemmas.Iterator.{YieldsList-from_slice}
use Rattle.tables.specs.Acceptance.{range_lawful}
use Rattle.lists.proofs.Chains.{all_of_chain}
use Rattle.lists.proofs.view.View.ranges_are_lawful.Goals as goal

pub returns : goal.returns
returns g c = all_of_chain (range_lawful g.K.Kind.meaning) _ _ _ c.all.ensures.ran (YieldsList-from_slice _ (cc)) (λ x b q k. search (rules, tests))
