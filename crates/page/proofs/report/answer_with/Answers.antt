use Rattle.lists.specs.Held.{lists_of, shown}
use Rattle.page.proofs.Answering.{told_of, rightly-of}
use Rattle.page.proofs.report.answer_with.Goals as goal

pub returns-in-Ok : goal.returns-in-Ok
returns-in-Ok c =
    let page = c.args.page.now in
    let l = lists_of c.args.lists.now in
    let after = lists_of c.read.new.lists in
    let e = shown c.args.at.now in
    let n = c.in-Ok.draft.counts in
    let h = c.in-Ok.ensures in
    record {
      told = told_of page l after e n h.answer h.left c.issue.result c.issue.ensures.told;
      rightly = rightly-of page l after e n h.answer h.left h.rightly c.issue.ensures.rightly;
    }
