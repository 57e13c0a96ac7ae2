use Rattle.std.proofs.Common.{◌≡◌, true, false, rules}
use Rattle.std.proofs.lemmas.Iterator.{first_from_Range}
use Rattle.names.specs.NameSets.{turns}
use Rattle.names.specs.Runs.{first-found}
use Rattle.names.proofs.NamesKind.next_stop.Goals as goal

pub returns : goal.returns
returns c =
    let test = turns c.args.cell in
    first-found test c.args.after _ c.find.result c.saturating_add.ensures
    (first_from_Range _ _ _ _ (λ i. test i ≡ true) (λ i. test i ≡ false) c.find.ensures.ran (λ x q k. search rules) (λ x q k. (search rules, search rules)))
