use Rattle.std.proofs.Common.{◌≡◌, Err, rules, sym, ap, ◌∙◌}
use Rattle.std.proofs.lemmas.Result.{err_from_is_err_and}
use Rattle.faults.specs.declared.SheetFault.TheVariants.{Lists as WrongLists}
use Rattle.page_faults.specs.declared.WriteFault.TheVariants.{Call as Denied}
use Rattle.lists.specs.Held.{lists_of, seen, viewed}
use Rattle.tables.specs.Storage.{Bounded, contents_of}
use Rattle.pages.proofs.BothWays.{written-rightly}
use Rattle.pages.proofs.OnlyNames.{no-bit-beyond}
use Rattle.writing.proofs.Asked.{no_answer, no-leaves, yes-answer, yes-leaves}
use Rattle.writing.proofs.writing.write.Goals as goal

pub returns-in_err-view : goal.returns-in_err-view
returns-in_err-view c =
    let n = c.args.draft.now.counts in
    let m = c.counts.result in
    let l = lists_of c.args.lists.now in
    let out = c.args.out.now in
    let b : Bounded m = search rules in
    let h = c.in_err-view.ensures.answer b in
    let p = err_from_is_err_and c.from_residual.result c.from_residual.ensures.1 in
    let r : c.from_residual.result ≡ Err (Denied WrongLists) = p.1 ∙ ap Err (p.2 ∙ ap Denied h.0) in
    record {
      answer = r ∙ no_answer n m l out c.counts.ensures (sym h.1);
      left = no-leaves n m l out c.counts.ensures (sym h.1);
      rightly = λ e. cc (h.1, c.counts.ensures, e);
    }

pub returns : goal.returns
returns c =
    let n = c.args.draft.now.counts in
    let m = c.counts.result in
    let l = lists_of c.args.lists.now in
    let out = c.args.out.now in
    let v = c.in_ok-view.view in
    let b : Bounded m = search rules in
    let h = c.in_ok-view.ensures.answer b in
    let k : Bounded n = search rules in
    let shown = ap (λ k. contents_of k (viewed v)) h.0 ∙ ap (contents_of m) h.1 in
    record {
      answer = yes-answer n m l out c.counts.ensures (seen v) (sym h.2) shown c.write_page.result c.write_page.ensures.answer;
      left = yes-leaves n m l out c.counts.ensures (seen v) (sym h.2) shown c.write_page.new.out c.write_page.ensures.left;
      rightly = λ e. written-rightly n l k e (no-bit-beyond n l c.only_names.ensures);
    }
