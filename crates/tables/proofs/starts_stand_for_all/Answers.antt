use Rattle.tables.proofs.Bridging.{bridge}
use Rattle.tables.proofs.Making.{made-of-starts, count-is-product}
use Rattle.tables.proofs.Searching.{one_by_one}
use Rattle.tables.proofs.starts_stand_for_all.Goals as goal

pub returns : goal.returns
returns g c =
    let m = g.K.Kind.meaning in
    let law = g.met.K.Kind.lawful in
    let r = g.R.ResultKind.results in
    record { bridge = bridge m law r; counted = count-is-product m law r; made = made-of-starts m law r; examined = one_by_one m law r }
