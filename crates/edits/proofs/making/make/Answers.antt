use Rattle.std.proofs.Common.{◌≡◌, Err, sym, subst, ◌∙◌, rules}
use Rattle.lists.specs.Held.{lists_of}
use Rattle.edits.specs.Meant.{edit_of, ok_or, EditLeaves}
use Rattle.edits.proofs.Permitted.{room, refused, accepted}
use Rattle.tables.specs.Storage.{counts_after}
use Rattle.edits.proofs.making.make.Goals as goal

pub returns-in_err-permitted-clause-answer : goal.returns-in_err-permitted-clause-answer
returns-in_err-permitted-clause-answer g c b =
    let k = edit_of c.args.edit in
    let q : c.from_residual.result ≡ Err c.in_err-permitted.field-0.0 = search rules in
    q ∙ (refused g.K.Kind.meaning g.R.ResultKind.results c.args.counts (lists_of c.args.lists.now) b k c.in_err-permitted.field-0.0 (c.in_err-permitted.ensures.answer b) (counts_after k c.args.counts)).0

pub returns-in_err-permitted-clause-left : goal.returns-in_err-permitted-clause-left
returns-in_err-permitted-clause-left g c b =
    let m = g.K.Kind.meaning in
    let r = g.R.ResultKind.results in
    let k = edit_of c.args.edit in
    let l = lists_of c.args.lists.now in
    let q : c.from_residual.result ≡ Err c.in_err-permitted.field-0.0 = search rules in
    subst (λ a. EditLeaves m r k c.args.counts l (ok_or a c.args.counts) l) (sym q) (refused m r c.args.counts l b k c.in_err-permitted.field-0.0 (c.in_err-permitted.ensures.answer b) (counts_after k c.args.counts)).1

pub write-requires : goal.write-requires
write-requires g c =
    let h = c.in_ok-permitted.ensures in
    room g.K.Kind.meaning g.R.ResultKind.results c.args.counts (lists_of c.args.lists.now) h.few c.args.edit (h.answer h.few)

pub count-requires : goal.count-requires
count-requires g c =
    let h = c.in_ok-permitted.ensures in
    room g.K.Kind.meaning g.R.ResultKind.results c.args.counts (lists_of c.args.lists.now) h.few c.args.edit (h.answer h.few)

pub returns : goal.returns
returns g c =
    let m = g.K.Kind.meaning in
    let r = g.R.ResultKind.results in
    let k = edit_of c.args.edit in
    let l = lists_of c.args.lists.now in
    let h = c.in_ok-permitted.ensures in
    let a = accepted m r c.args.counts l h.few k (h.answer h.few) c.count.result (lists_of c.write.new.lists) c.count.ensures c.write.ensures.left in
    record { answer = λ _. a.0; left = λ _. a.1.0; few = a.1.1; refused = h.few; kept = tt; lent = c.write.ensures.lent }
