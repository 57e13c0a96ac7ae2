use Rattle.lists.specs.Held.{seen}
use Rattle.starts.specs.Counted.{starts_of}
use Rattle.starts.proofs.Counting.{quantity-twice}
use Rattle.starts.proofs.count.times_quantity.Goals as goal

pub returns-in-Flight : goal.returns-in-Flight
returns-in-Flight g c =
    quantity-twice c.args.product (starts_of g.K.Kind.meaning (seen c.args.view.now) c.args.i c.args.q.least c.args.q.greatest) c.in_ok-once.once c.args.q.scope
    c.in-Flight.is c.in_ok-once.ensures c.times_starts-in-Flight.ensures
