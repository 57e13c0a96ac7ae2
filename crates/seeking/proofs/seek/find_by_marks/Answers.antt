use Rattle.std.proofs.Common.{◌≡◌, Some, None, Err, length, take, sym, ◌∙◌, subst, length-take, arith, rules}
use Rattle.faults.specs.declared.SheetFault.TheVariants.{TooManyEncounters}
use Rattle.lists.specs.Held.{seen, shown}
use Rattle.tables.specs.Starts.{count}
use Rattle.tables.specs.Issues.{issue}
use Rattle.starts.proofs.Counting.{told_is}
use Rattle.seeking.specs.Seeks.{SpannedBy, Found}
use Rattle.seeking.proofs.Questions.{counted-found, uncounted-found}
use Rattle.seeking.proofs.seek.find_by_marks.Goals as goal

pub returns-in_err-count-clause-found : goal.returns-in_err-count-clause-found
returns-in_err-count-clause-found g c = λ right ok w.
    let m = g.K.Kind.meaning in
    let r = g.R.ResultKind.results in
    let s = seen c.args.view.now in
    let lent = shown c.args.at.now in
    let told = c.count_marked.ensures c.args.marks.now right in
    let none : c.count_marked.result ≡ None = c.in_err-count.ensures.ok_part in
    let is : c.from_residual.result ≡ Err TooManyEncounters = search rules in
    subst (λ t. Found m r s lent (issue m r s lent) t lent) (sym is) (uncounted-found m r s lent w (sym none ∙ told))

pub returns-clause-found : goal.returns-clause-found
returns-clause-found g c = λ right ok w.
    let m = g.K.Kind.meaning in
    let v = c.args.view.now in
    let s = seen v in
    let some : c.count_marked.result ≡ Some c.in_ok-count.count = search rules in
    let told = sym some ∙ c.count_marked.ensures c.args.marks.now right in
    let long : length s.quantities ≡ v.counts.quantities = omega (arith, length-take v.counts.quantities v.quantities.now, v.few.quantities, v.all_quantities) in
    counted-found m g.R.ResultKind.results s (shown c.args.at.now) w told
    (c.questions.ensures.found (subst (λ n. SpannedBy m v c.args.marks.now (take n c.args.spans.now)) long right) ok w (told_is c.in_ok-count.count (count m s) told).0)
