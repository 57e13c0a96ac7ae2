use Rattle.std.proofs.Common.{◌∙◌}
use Rattle.lists.specs.Held.{lists_of, shown}
use Rattle.page.proofs.Answering.{fresh-lists, fresh-encounter, told_fresh, reported-fresh}
use Rattle.page.proofs.report.answer.Goals as goal

pub returns : goal.returns
returns c =
    let l = lists_of c.lend.result in
    let e = shown c.lend-2.result in
    let p = c.lend.ensures.lent ∙ c.new-sheet.ensures ∙ fresh-lists in
    let q = c.lend-2.ensures.lent ∙ c.new-encounter.ensures ∙ fresh-encounter in
    record {
      told = told_fresh c.args.page.now l e p q c.answer_with.result c.answer_with.ensures.told;
      meant = reported-fresh c.args.page.now l e p q c.answer_with.ensures.rightly;
    }
