use Rattle.std.proofs.Common.{◌∙◌, take, rules, tests}
use Rattle.std.proofs.lemmas.Iterator.{YieldsList-from_slice}
use Rattle.std.proofs.lemmas.Iterator.Consumers.{YieldsList-from_enumerate}
use Rattle.tables.specs.Storage.{column_of}
use Rattle.lists.proofs.Chains.{all_of_chain}
use Rattle.lists.proofs.First.{column_lawful}
use Rattle.lists.proofs.Left.{columns-numbered}
use Rattle.lists.proofs.view.View.columns_are_lawful.Goals as goal

pub returns : goal.returns
returns g c =
    let v = c.args.self.now in
    let p = column_lawful g.K.Kind.meaning g.R.ResultKind.results (take v.counts.quantities v.quantities.now) (take v.counts.rows v.rows.now) in
    let rs = take v.counts.columns v.results.now in
    all_of_chain (λ k. p (record { entries = column_of v.entries.now v.counts.rows k.0; result = k.1 })) _ _ _ c.all.ensures.ran
    (YieldsList-from_enumerate (YieldsList-from_slice rs (cc)) (cc)) (λ x b q k. search (rules, tests))
    ∙ columns-numbered v.entries.now v.counts.rows p 0 rs
