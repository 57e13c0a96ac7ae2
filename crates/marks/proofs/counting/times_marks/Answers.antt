use Rattle.std.proofs.Common.{◌≡◌, ◌-◌, rules}
use Rattle.starts.proofs.Counting.{quantity-twice}
use Rattle.marks.proofs.counting.times_marks.Goals as goal

pub returns-in-Flight : goal.returns-in-Flight
returns-in-Flight c =
    let n : c.saturating_sub-n.result ≡ c.args.span.to - c.args.span.from = search rules in
    quantity-twice c.args.product (c.args.span.to - c.args.span.from) c.in_ok-once.once c.args.span.scope c.in-Flight.is
    (search rules) (search rules)
