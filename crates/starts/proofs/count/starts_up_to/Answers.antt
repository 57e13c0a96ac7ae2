use Rattle.std.proofs.Common.{◌≡◌, ◌+◌, take, length, arith, length-take, rules}
use Rattle.std.proofs.lemmas.Iterator.{YieldsList-from_take}
use Rattle.std.proofs.lemmas.Iterator.Consumers.{YieldsList-at, count_from_yields_List}
use Rattle.lists.specs.Held.{seen}
use Rattle.tables.specs.Starts.{cells_of, starts_on}
use Rattle.starts.specs.Counted.{starts_of}
use Rattle.starts.proofs.Counting.{starts-yielded}
use Rattle.starts.proofs.count.starts_up_to.Goals as goal

pub returns : goal.returns
unfolding starts_of
returns g c =
    let m = g.K.Kind.meaning in
    let cs = cells_of (seen c.args.view.now) c.args.i in
    let vs = starts_on m cs c.args.q.greatest c.args.q.least in
    let n : c.count.result ≡ length (take (c.args.most + 1) vs) =
    count_from_yields_List c.take.result _ c.count.ensures.ran
    (YieldsList-from_take (c.args.most + 1) (YieldsList-at c.take.ensures.source (starts-yielded m g.met.K.Kind.lawful cs c.args.q.greatest _ _ c.successors-starts.result c.args.q.least c.successors-starts.ensures.item c.successors-starts.ensures.closure (λ x r q k. search rules))) c.take.ensures.count) in
    omega (arith, n, length-take (c.args.most + 1) vs)
