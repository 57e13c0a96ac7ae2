use Rattle.std.proofs.Common.{◌≡◌, ◌+◌, length, drop, take, get_or, sym, subst, ◌∙◌, length-take, arith}
use Rattle.items.specs.declared.Scope.TheVariants.{Flight}
use Rattle.lists.specs.Held.{seen}
use Rattle.sets.specs.declared.Span.{Span}
use Rattle.sets.specs.Marks.{AllSpanned}
use Rattle.starts.proofs.Counting.{factor-told}
use Rattle.tables.specs.Storage.{column_of}
use Rattle.marks.proofs.Products.{taken_by, product_of, product-here, cut-within, count-over, count-told}
use Rattle.marks.proofs.counting.count_marked.Goals as goal

pub loop-span-preserved : goal.loop-span-preserved
loop-span-preserved g c =
    let l = c.loop-span in
    let ss = take c.min-in_use.result c.args.spans.now in
    let d : Span = record { scope = Flight; quantity = 0; from = 0; to = 0 } in
    factor-told l.product (taken_by (get_or ss l.span-index d)) (product_of (drop (l.span-index + 1) ss)) (product-here ss l.span-index d c.loop-span-test.true) l.invariant.1
    c.in_ok-product.product (sym c.in_ok-product.was ∙ c.times_marks.ensures)

pub returns-in_err-product : goal.returns-in_err-product
returns-in_err-product g c = λ marks h.
    let v = c.args.view.now in
    let l = c.loop-span in
    let ss = take c.min-in_use.result c.args.spans.now in
    let d : Span = record { scope = Flight; quantity = 0; from = 0; to = 0 } in
    let long : length (seen v).quantities ≡ v.counts.quantities = omega (arith, length-take v.counts.quantities v.quantities.now, v.few.quantities, v.all_quantities) in
    let cut = cut-within (length (seen v).quantities) c.min-in_use.result c.args.spans.now (omega arith) in
    let all = subst (AllSpanned g.K.Kind.meaning (seen v) (λ k. column_of v.entries.now v.counts.rows k) marks 0 (seen v).quantities) cut h in
    c.from_residual.ensures ∙ count-over g.K.Kind.meaning (seen v) (λ k. column_of v.entries.now v.counts.rows k) marks ss all l.span-index l.product l.invariant.1 d c.loop-span-test.true (sym c.in_err-product.was ∙ c.times_marks.ensures)

pub returns : goal.returns
returns g c = λ marks h.
    let v = c.args.view.now in
    let l = c.loop-span in
    let ss = take c.min-in_use.result c.args.spans.now in
    let long : length (seen v).quantities ≡ v.counts.quantities = omega (arith, length-take v.counts.quantities v.quantities.now, v.few.quantities, v.all_quantities) in
    let cut = cut-within (length (seen v).quantities) c.min-in_use.result c.args.spans.now (omega arith) in
    let all = subst (AllSpanned g.K.Kind.meaning (seen v) (λ k. column_of v.entries.now v.counts.rows k) marks 0 (seen v).quantities) cut h in
    count-told g.K.Kind.meaning (seen v) (λ k. column_of v.entries.now v.counts.rows k) marks ss all l.span-index l.product l.invariant.1 c.loop-span-test.false l.invariant.0
