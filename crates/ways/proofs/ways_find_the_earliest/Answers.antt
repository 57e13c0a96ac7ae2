use Rattle.ways.proofs.Finding.{find_the_earliest, walks_find}
use Rattle.ways.proofs.ways_find_the_earliest.Goals as goal

pub returns : goal.returns
returns g c =
    let m = g.K.Kind.meaning in
    let r = g.R.ResultKind.results in
    record { earliest = find_the_earliest m r; walks = walks_find m r }
