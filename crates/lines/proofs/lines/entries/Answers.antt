use Rattle.std.proofs.Common.{◌≡◌, suc, ◌+◌, ◌-◌, ◌≤◌, [], ◌∷◌, ◌++◌, length, take, Err, sym, ap, ◌∙◌, ap₂, arith}
use Rattle.std.proofs.lemmas.List.{length-set, length-append, take_all, take_more_set, take-append-le}
use Rattle.std.proofs.lemmas.Result.{err_from_is_err_and}
use Rattle.text.specs.Forms.{rest_at}
use Rattle.text.specs.Lines.{in_row}
use Rattle.text.proofs.LineSteps.{following, entries-more, entries-stop, entries-wrong, entries-all}
use Rattle.lines.specs.Left.{left, byte}
use Rattle.lines.proofs.lines.entries.Goals as goal

pub returns-in_err-place : goal.returns-in_err-place
returns-in_err-place c =
    let l = c.loop-place in
    let i = l.place-index in
    let s = c.args.fields.now in
    let n = c.args.count in
    let p = err_from_is_err_and c.from_residual.result c.from_residual.ensures.1 in
    let k : n - i ≡ suc (n - (i + 1)) = omega (arith, l.invariant.1) in
    let e = entries-stop (take i l.place-items) (n - i) (n - (i + 1)) (byte l.fields) (left l.fields) c.in_err-place.field-0.0 k c.in_err-place.ensures.value in
    let w = entries-wrong n (byte s) (left s) c.if-count-gt16.false _ _ (sym l.invariant.0 ∙ e) in
    record { value = p.1 ∙ ap Err p.2 ∙ w.0; kept = w.1 }

pub loop-place-preserved : goal.loop-place-preserved
loop-place-preserved c =
    let l = c.loop-place in
    let i = l.place-index in
    let items = l.place-items in
    let v = c.placed.new.self in
    let n = c.args.count in
    let m = n - (i + 1) in
    let p = c.in_ok-place.field-0 in
    let k : n - i ≡ suc m = omega (arith, l.invariant.1) in
    let h : i + 1 ≤ length items = omega arith in
    let ps = take i items ++ (p ∷ []) in (
      ap (λ ps. following ps (in_row m (byte v) (left v))) (take_more_set items i p (omega arith))
          ∙ ap (λ b. following ps (in_row m b (left v))) c.placed.ensures.byte
          ∙ ap (λ fs. following ps (in_row m (rest_at (byte l.fields) (left l.fields)) fs)) c.placed.ensures.left
          ∙ sym (entries-more (take i items) (n - i) m (byte l.fields) (left l.fields) p k c.in_ok-place.ensures.value)
          ∙ l.invariant.0,
      length-set items i p ∙ l.invariant.1,
    )

pub returns : goal.returns
returns c =
    let l = c.loop-place in
    let items = l.place-items in
    let s = c.args.fields.now in
    let n = c.args.count in
    let z : n - l.place-index ≡ 0 = omega (arith, l.invariant.1) in
    let near : n ≤ length items = omega (arith, l.invariant.1) in
    let a = take-append-le n items _ near ∙ take_all n items (omega (arith, l.invariant.1)) ∙ sym (take_all l.place-index items (omega arith)) in
    let e = ap₂ (λ ps m. following ps (in_row m (byte l.fields) (left l.fields))) a (sym z) ∙ l.invariant.0 in
    let w = entries-all n (byte s) (left s) c.if-count-gt16.false _ n (byte l.fields) (left l.fields) (rw length-append (omega (arith, near))) e in
    record { value = c.done.ensures ∙ w.0; kept = w.1 }
