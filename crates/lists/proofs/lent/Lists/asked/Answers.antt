use Rattle.std.proofs.Common.{◌≡◌, subst, sym, rules, tests}
use Rattle.tables.specs.Acceptance.{acceptable}
use Rattle.lists.specs.Held.{FirstAnswer, seen}
use Rattle.lists.proofs.First.{first-answer}
use Rattle.lists.proofs.lent.Lists.asked.Goals as goal

pub returns : goal.returns
returns g c =
    let m = g.K.Kind.meaning in
    let rs = g.R.ResultKind.results in
    subst (FirstAnswer m rs c.args.counts c.args.self.now) (sym c.ok_or.ensures.value)
    (first-answer m rs c.args.counts c.args.self.now c.view.result c.filter.result c.view.ensures _ c.filter.ensures
    (λ v b h. subst (λ v. b ≡ acceptable m rs (seen v)) h.2 (let k = h.1 in search (rules, tests))))
