use Rattle.std.proofs.Common.{◌≤◌, length, arith}
use Rattle.lists.specs.Held.{seen}
use Rattle.starts.proofs.Stopping.{all-cells}
use Rattle.starts.proofs.next.earliest_stop.Goals as goal

pub returns : goal.returns
returns g c =
    let long : c.args.view.now.counts.columns ≤ length c.args.view.now.results.now = omega arith in
    all-cells g.K.Kind.meaning c.args.after c.args.quantity (seen c.args.view.now).rows c.args.view.now.entries.now c.args.view.now.counts.rows c.args.view.now.counts.columns c.args.view.now.counts.nevers c.args.view.now.results.now
    c.columns_stop-columns.result c.columns_stop-nevers.result long c.columns_stop-columns.ensures c.columns_stop-nevers.ensures c.earlier_stop.ensures
