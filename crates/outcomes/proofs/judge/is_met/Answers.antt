use Rattle.std.proofs.Common.{zip, ◌∙◌, rules, tests, ◌≡◌, ap, arith, min}
use Rattle.std.proofs.lemmas.Iterator.Consumers.{YieldsList-from_first}
use Rattle.tables.specs.Outcomes.{entry_holds}
use Rattle.tables.specs.Storage.{column_of}
use Rattle.lists.specs.Held.{encounter_of, seen}
use Rattle.lists.specs.Rows.{rows_left}
use Rattle.lists.proofs.Chains.{all_of_chain}
use Rattle.outcomes.proofs.Steps.{met-by-row}
use Rattle.outcomes.proofs.judge.is_met.Goals as goal

pub returns : goal.returns
returns g c =
    let m = g.K.Kind.meaning in
    let e = encounter_of c.args.e.now in
    let v = c.args.view.now in
    let within : min c.args.column 23 ≡ c.args.column = omega (arith, c.requires) in
    let ws = (seen v).rows in
    let xs = column_of v.entries.now v.counts.rows c.args.column in
    all_of_chain (λ p. entry_holds m p.0 p.1 e) c.all.new.self _ _ c.all.ensures.ran (YieldsList-from_first (λ x. x) rows_left (zip ws xs) (c.column.ensures ∙ ap (λ j. zip ws (column_of v.entries.now v.counts.rows j)) within)) (λ x b q k. search (rules, tests))
    ∙ met-by-row m e ws xs
