use Rattle.std.proofs.Common.{◌+◌, ◌∙◌, take, refl, arith, rules, tests}
use Rattle.std.specs.List.{range_with_len}
use Rattle.std.proofs.lemmas.Iterator.{YieldsList-from_range}
use Rattle.tables.specs.Acceptance.{entries_lawful}
use Rattle.tables.specs.Storage.{column_of}
use Rattle.lists.proofs.Chains.{all_of_chain, all_of-map}
use Rattle.lists.proofs.view.View.nevers_are_lawful.Goals as goal

pub returns : goal.returns
returns g c =
    let v = c.args.self.now in
    let p = entries_lawful g.K.Kind.meaning (take v.counts.quantities v.quantities.now) (take v.counts.rows v.rows.now) in
    all_of_chain (λ j. p (column_of v.entries.now v.counts.rows (16 + j))) _ _ _ c.all.ensures.ran (YieldsList-from_range 0 v.counts.nevers v.counts.nevers refl (omega arith)) (λ x b q k. search (rules, tests))
    ∙ all_of-map p (λ j. column_of v.entries.now v.counts.rows (16 + j)) (range_with_len 0 v.counts.nevers)
