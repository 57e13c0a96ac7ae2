use Rattle.std.proofs.Common.{ℕ, ◌+◌, ◌∙◌, refl, arith, rules, tests}
use Rattle.std.specs.List.{range_with_len}
use Rattle.std.proofs.lemmas.Iterator.{YieldsList-from_range}
use Rattle.tables.specs.Outcomes.{met}
use Rattle.tables.specs.Storage.{column_of}
use Rattle.lists.specs.Held.{encounter_of, seen}
use Rattle.lists.proofs.Chains.{any_of_chain}
use Rattle.outcomes.proofs.Steps.{met-of-some}
use Rattle.outcomes.proofs.judge.is_barred.Goals as goal

pub returns : goal.returns
returns g c =
    let m = g.K.Kind.meaning in
    let e = encounter_of c.args.e.now in
    let v = c.args.view.now in
    let f = λ (j : ℕ). column_of v.entries.now v.counts.rows (16 + j) in
    any_of_chain (λ j. met m (seen v).rows (f j) e) _ _ _ c.any.ensures.ran (YieldsList-from_range 0 v.counts.nevers v.counts.nevers refl (omega arith)) (λ x b q k. search (rules, tests))
    ∙ met-of-some m e (seen v).rows f (range_with_len 0 v.counts.nevers)
