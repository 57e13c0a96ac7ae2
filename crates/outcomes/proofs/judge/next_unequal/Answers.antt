use Rattle.std.proofs.Common.{◌-◌, ◌≤◌, ◌&&◌, not, length, get_or, ◌∙◌, refl, arith, rules, tests}
use Rattle.std.proofs.lemmas.Iterator.{YieldsList-from_range}
use Rattle.tables.specs.Outcomes.{met}
use Rattle.tables.specs.Storage.{column_of}
use Rattle.lists.specs.Held.{encounter_of, seen}
use Rattle.lists.proofs.Chains.{find_of_chain}
use Rattle.outcomes.proofs.Steps.{unequal-found}
use Rattle.outcomes.proofs.judge.next_unequal.Goals as goal

pub returns : goal.returns
returns g c =
    let m = g.K.Kind.meaning in
    let r = g.R.ResultKind.results in
    let e = encounter_of c.args.e.now in
    let v = c.args.view.now in
    let n = v.counts.columns in
    let long : n ≤ length v.results.now = omega arith in
    find_of_chain (λ j. met m (seen v).rows (column_of v.entries.now v.counts.rows j) e && not (r.same c.args.res (get_or v.results.now j c.args.res))) _ _ _ c.find.ensures.ran
    (YieldsList-from_range c.args.from n (n - c.args.from) refl refl) (λ x b q k. search (rules, tests))
    ∙ unequal-found r m e (seen v).rows v.entries.now v.counts.rows v.results.now n c.args.res long (n - c.args.from) c.args.from refl
