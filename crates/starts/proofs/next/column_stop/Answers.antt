use Rattle.std.proofs.Common.{zip, None, take, ◌==◌, ap, ◌∙◌, rules, tests, ◌≡◌, arith, min}
use Rattle.std.proofs.lemmas.Iterator.Consumers.{YieldsList-from_first, YieldsList-from_filter, fold_from_yields_List}
use Rattle.kinds.specs.Meaning.{earlier}
use Rattle.tables.specs.Storage.{column_of}
use Rattle.lists.specs.Rows.{rows_left}
use Rattle.starts.specs.Stops.{stop_of}
use Rattle.starts.proofs.Stopping.{folded-rows}
use Rattle.starts.proofs.next.column_stop.Goals as goal

pub returns : goal.returns
returns g c =
    let m = g.K.Kind.meaning in
    let v = c.args.view.now in
    let within : min c.args.column 23 ≡ c.args.column = omega (arith, c.requires) in
    let ws = take v.counts.rows v.rows.now in
    let es = column_of v.entries.now v.counts.rows c.args.column in
    fold_from_yields_List _ (λ s p. earlier m.rank s (stop_of m p.1 c.args.after)) None c.fold.result c.fold.ensures.ran
    (YieldsList-from_filter _ (λ p. p.0.quantity == c.args.quantity) (YieldsList-from_first (λ x. x) rows_left (zip ws es) (ap rows_left c.filter.ensures.source ∙ c.column.ensures ∙ ap (λ j. zip ws (column_of v.entries.now v.counts.rows j)) within)) c.filter.ensures.closure
    (λ x b q k. search (rules, tests))) (λ a x b q k. search (rules, tests))
    ∙ folded-rows m c.args.after c.args.quantity ws es None
