use Rattle.std.proofs.Common.{take, length, sym, ap, ◌∙◌}
use Rattle.lists.proofs.Left.{columns-length}
use Rattle.lists.proofs.view.View.column_count.Goals as goal

pub returns : goal.returns
returns g c =
    let v = c.args.self.now in
    ap length c.results_in_use.ensures ∙ sym (columns-length v.entries.now v.counts.rows 0 (take v.counts.columns v.results.now))
