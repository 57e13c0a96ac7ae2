use Rattle.std.proofs.Common.{◌+◌, sym}
use Rattle.std.proofs.lemmas.List.FromFn.{length-map-range_with_len}
use Rattle.tables.specs.Storage.{column_of}
use Rattle.lists.proofs.view.View.never_count.Goals as goal

pub returns : goal.returns
returns g c = let v = c.args.self.now in sym (length-map-range_with_len (λ j. column_of v.entries.now v.counts.rows (16 + j)) 0 v.counts.nevers)
