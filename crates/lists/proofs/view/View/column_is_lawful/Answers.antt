use Rattle.std.proofs.Common.{◌≡◌, zip, ◌+◌, ◌*◌, ◌∙◌, take, length, get_or, arith, length-take, rules, tests, ap, min}
use Rattle.std.proofs.lemmas.Iterator.Consumers.{YieldsList-from_first}
use Rattle.std.proofs.lemmas.List.FromFn.{length-map-range_with_len}
use Rattle.tables.specs.Acceptance.{entry_lawful}
use Rattle.tables.specs.Storage.{column_of}
use Rattle.items.specs.declared.Entry.TheVariants.{Any}
use Rattle.lists.specs.Rows.{rows_left}
use Rattle.lists.proofs.Chains.{all_of_chain}
use Rattle.lists.proofs.Rowwise.{lawful-by-row}
use Rattle.lists.proofs.view.View.column_is_lawful.Goals as goal

pub returns : goal.returns
returns g c =
    let v = c.args.self.now in
    let within : min c.args.column 23 ≡ c.args.column = omega (arith, c.requires) in
    let qs = take v.counts.quantities v.quantities.now in
    let ws = take v.counts.rows v.rows.now in
    let es = column_of v.entries.now v.counts.rows c.args.column in
    let q : length ws ≡ length es = omega (arith, length-take v.counts.rows v.rows.now, length-map-range_with_len (λ i. get_or v.entries.now (24 * i + c.args.column) Any) 0 v.counts.rows) in
    all_of_chain (λ p. entry_lawful g.K.Kind.meaning qs p.0 p.1) c.all.new.self _ _ c.all.ensures.ran (YieldsList-from_first (λ x. x) rows_left (zip ws es) (c.column.ensures ∙ ap (λ j. zip ws (column_of v.entries.now v.counts.rows j)) within)) (λ x b q k. search (rules, tests))
    ∙ lawful-by-row g.K.Kind.meaning qs ws es q
