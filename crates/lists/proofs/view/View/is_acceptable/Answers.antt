use Rattle.std.proofs.Common.{◌≡◌, true, rules}
use Rattle.tables.specs.Acceptance.{entries_lawful, range_lawful, row_lawful}
use Rattle.tables.specs.Words.{all_of}
use Rattle.lists.specs.Held.{seen}
use Rattle.lists.proofs.First.{acceptable-by-parts, column_lawful}
use Rattle.lists.proofs.view.View.is_acceptable.Goals as goal
use Rattle.lists.proofs.view.View.is_acceptable.Goals.{then-ranges_are_lawful, else-ranges_are_lawful, then-rows_are_lawful, else-rows_are_lawful, then-columns_are_lawful, else-columns_are_lawful}

pub returns-then-nevers_are_lawful : goal.returns-then-nevers_are_lawful
returns-then-nevers_are_lawful g c =
    let m = g.K.Kind.meaning in
    let v = c.args.self.now in
    let qs = (seen v).quantities in
    let ws = (seen v).rows in
    let ns : (c.if-rows_are_lawful.value ≡ true) × (all_of (entries_lawful m qs ws) (seen v).nevers ≡ true)
    = elim c.if-columns_are_lawful.branch [ then-columns_are_lawful w ↦ search rules | else-columns_are_lawful w ↦ search rules ] in
    let ks : (c.if-ranges_are_lawful.value ≡ true) × (all_of (column_lawful m g.R.ResultKind.results qs ws) (seen v).columns ≡ true)
    = elim c.if-rows_are_lawful.branch [ then-rows_are_lawful w ↦ search rules | else-rows_are_lawful w ↦ search rules ] in
    let rs : (all_of (range_lawful m) qs ≡ true) × (all_of (row_lawful m qs) ws ≡ true)
    = elim c.if-ranges_are_lawful.branch [ then-ranges_are_lawful w ↦ search rules | else-ranges_are_lawful w ↦ search rules ] in
    acceptable-by-parts m g.R.ResultKind.results v _ rs.0 rs.1 ks.1 ns.1 c.default_is_lawful.ensures
