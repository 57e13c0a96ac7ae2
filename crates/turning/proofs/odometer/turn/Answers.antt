use Rattle.std.proofs.Common.{◌≡◌, length, rules, arith, ap, ◌∙◌}
use Rattle.std.specs.List.{push}
use Rattle.tables.specs.Starts.{turned}
use Rattle.lists.specs.Held.{seen, shown}
use Rattle.turning.specs.Turning.{places_of}
use Rattle.turning.proofs.Turns.{turned-step, turned-rest}
use Rattle.turning.proofs.odometer.turn.Goals as goal

pub returns-then-turn_quantity-clause-after : goal.returns-then-turn_quantity-clause-after
returns-then-turn_quantity-clause-after g c =
    let m = g.K.Kind.meaning in
    let s = seen c.args.view.now in
    let ws = c.loop-i.i-iterator.iter.iter.rest.now in
    let us = c.next.new.self.iter.iter.rest.now in
    let q = c.in-Some.q.now in
    let is : ws ≡ push us q = search rules in
    let at : c.in-Some.i ≡ length us = search (rules, arith) in
    let t = turned-step m s s.quantities ws us q c.loop-i.invariant.1 is (shown c.args.at.now) (shown c.loop-i.at) (shown c.turn_quantity.new.at) c.loop-i.invariant.2
    (c.turn_quantity.ensures.after ∙ ap (λ i. turned m s (places_of i q q.scope) (shown c.loop-i.at)) at) c.if-turn_quantity.true in
    turned-rest m s s.quantities us (shown c.args.at.now) (shown c.turn_quantity.new.at) t.0 t.1
