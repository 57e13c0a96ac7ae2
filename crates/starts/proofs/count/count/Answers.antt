use Rattle.std.proofs.Common.{rules, ◌∙◌}
use Rattle.tables.specs.Starts.{count}
use Rattle.lists.specs.Held.{seen}
use Rattle.starts.proofs.Counting.{counted-here, counted-over}
use Rattle.starts.proofs.count.count.Goals as goal

pub returns-in_err-product : goal.returns-in_err-product
returns-in_err-product g c =
    let m = g.K.Kind.meaning in
    let s = seen c.args.view.now in
    c.from_residual.ensures ∙ counted-over m s s.quantities c.loop-i.i c.q-item.result c.loop-i.product (count m s) (search rules) (search rules) c.in_err-product.ensures c.loop-i.invariant.1

pub loop-i-preserved : goal.loop-i-preserved
loop-i-preserved g c =
    let m = g.K.Kind.meaning in
    let s = seen c.args.view.now in
    counted-here m s s.quantities c.loop-i.i c.q-item.result c.loop-i.product c.in_ok-product.product (count m s) (search rules) (search rules) c.in_ok-product.ensures c.loop-i.invariant.1
