use Rattle.std.proofs.Common.{ℕ, ◌-◌, None, take, refl, ◌∙◌, rules, tests}
use Rattle.std.specs.List.{range_with_len}
use Rattle.std.proofs.lemmas.Iterator.{YieldsList-from_range}
use Rattle.std.proofs.lemmas.Iterator.Consumers.{fold_from_yields_List}
use Rattle.kinds.specs.Meaning.{earlier}
use Rattle.tables.specs.Starts.{earliest, reading}
use Rattle.tables.specs.Storage.{column_of}
use Rattle.starts.proofs.Stopping.{folded-columns}
use Rattle.starts.proofs.next.columns_stop.Goals as goal

pub returns : goal.returns
returns g c =
    let m = g.K.Kind.meaning in
    let v = c.args.view.now in
    let f = λ (j : ℕ). reading c.args.quantity (take v.counts.rows v.rows.now) (column_of v.entries.now v.counts.rows j) in
    fold_from_yields_List _ (λ s j. earlier m.rank s (earliest m (f j) c.args.after)) None c.fold.result c.fold.ensures.ran
    (YieldsList-from_range c.args.from c.args.to (c.args.to - c.args.from) refl refl) (λ a x b q k. search (rules, tests))
    ∙ folded-columns m c.args.after f (range_with_len c.args.from (c.args.to - c.args.from)) None
