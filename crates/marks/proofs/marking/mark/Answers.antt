use Rattle.std.proofs.Common.{◌≡◌, ◌<◌, length, ◌+◌, get_or, take, ap, sym, ◌∙◌, subst, length-take, arith}
use Rattle.items.specs.declared.Mode.TheVariants.{A}
use Rattle.items.specs.declared.Row.{Row}
use Rattle.lists.specs.Held.{seen}
use Rattle.sets.specs.Marks.{Marked}
use Rattle.tables.specs.Storage.{column_of}
use Rattle.marks.proofs.Narrowing.{marked-none, joined-few, row-more, row-past, rows-all}
use Rattle.marks.proofs.marking.mark.Goals as goal
use Rattle.marks.proofs.marking.mark.Goals.{then-row-quantity, else-row-quantity}

pub loop-i-init : goal.loop-i-init
loop-i-init g c = record {
  so_far = marked-none g.K.Kind.meaning c.args.quantity c.args.value _ c.blank-mark.result c.blank-mark.ensures;
  few = omega (arith, ap (λ x. x.eithers) c.blank-mark.ensures);
  long = ap (λ x. length x.either) c.blank-mark.ensures;
}

pub loop-i-preserved : goal.loop-i-preserved
loop-i-preserved g c =
    let m = g.K.Kind.meaning in
    let v = c.args.view.now in
    let rs = c.rows_in_use-row-items.result.now in
    let d : Row = record { quantity = 0; mode = A } in
    let i = c.loop-i.i in
    let x = c.loop-i.mark in
    let lt : i < length rs = omega arith in
    let room : x.eithers < length x.either = omega (arith, ap length c.rows_in_use-row-items.ensures, length-take v.counts.rows v.rows.now) in
    elim c.if-row-quantity.branch [
      | then-row-quantity w ↦ record {
        so_far = subst (λ y. Marked m (take (i + 1) (seen v).rows) (λ k. column_of v.entries.now (i + 1) k) c.args.quantity c.args.value y) (sym w.mark-is)
            (row-more m c.args.quantity c.args.value rs (seen v).rows v.entries.now i d x c.rows_in_use-row-items.ensures c.loop-i.invariant.so_far lt w.row_set.result w.join.new.mark w.if-row-quantity.true room w.row_set.ensures w.join.ensures);
        few = omega (arith, (joined-few i w.row_set.result (get_or rs i d).mode x w.join.new.mark w.join.ensures c.loop-i.invariant.few).0, ap (λ x. x.eithers) w.mark-is);
        long = ap (λ x. length x.either) w.mark-is ∙ (joined-few i w.row_set.result (get_or rs i d).mode x w.join.new.mark w.join.ensures c.loop-i.invariant.few).1 ∙ c.loop-i.invariant.long;
      }
      | else-row-quantity w ↦ record {
        so_far = subst (λ y. Marked m (take (i + 1) (seen v).rows) (λ k. column_of v.entries.now (i + 1) k) c.args.quantity c.args.value y) (sym w.mark-is)
            (row-past m c.args.quantity c.args.value rs (seen v).rows v.entries.now i d x c.rows_in_use-row-items.ensures c.loop-i.invariant.so_far lt w.if-row-quantity.false);
        few = omega (arith, c.loop-i.invariant.few, ap (λ x. x.eithers) w.mark-is);
        long = ap (λ x. length x.either) w.mark-is ∙ c.loop-i.invariant.long;
      }
    ]

pub returns : goal.returns
returns g c =
    let v = c.args.view.now in
    let rs = c.rows_in_use-row-items.result.now in
    let d : Row = record { quantity = 0; mode = A } in
    let long : length (seen v).rows ≡ v.counts.rows = omega (arith, length-take v.counts.rows v.rows.now) in
    let all : v.counts.rows ≡ c.loop-i.i = omega (arith, ap length c.rows_in_use-row-items.ensures) in
    rows-all g.K.Kind.meaning c.args.quantity c.args.value rs (seen v).rows v.entries.now c.loop-i.i d c.loop-i.mark c.rows_in_use-row-items.ensures c.loop-i.invariant.so_far v.counts.rows long all
