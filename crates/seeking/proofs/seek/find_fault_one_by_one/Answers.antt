use Rattle.std.proofs.Common.{◌≡◌, true, Some, sym, ◌∙◌, rules}
use Rattle.lists.specs.Held.{seen, shown}
use Rattle.tables.specs.Contents.{whole}
use Rattle.tables.specs.Starts.{count}
use Rattle.starts.proofs.Counting.{told_is}
use Rattle.seeking.proofs.Questions.{counted-found}
use Rattle.seeking.proofs.seek.find_fault_one_by_one.Goals as goal

pub returns-clause-found : goal.returns-clause-found
returns-clause-found g c = λ ok.
    let m = g.K.Kind.meaning in
    let s = seen c.args.view.now in
    let lent = shown c.args.at.now in
    let w : whole lent ≡ true = search rules in
    let some : c.count.result ≡ Some c.in_ok-count.count = search rules in
    counted-found m g.R.ResultKind.results s lent w (sym some ∙ c.count.ensures)
    (c.questions.ensures.found tt ok w (told_is c.in_ok-count.count (count m s) (sym some ∙ c.count.ensures)).0)
