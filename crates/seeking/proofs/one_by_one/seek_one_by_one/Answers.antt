use Rattle.std.proofs.Common.{◌≡◌, ap, ◌∙◌, rules}
use Rattle.tables.specs.Contents.{places, whole}
use Rattle.tables.specs.Starts.{reset}
use Rattle.lists.specs.Held.{seen, shown}
use Rattle.seeking.proofs.Seeking.{reset-whole, counted, from-least}
use Rattle.seeking.proofs.one_by_one.seek_one_by_one.Goals as goal

pub returns-clause-after : goal.returns-clause-after
returns-clause-after g c = λ n t f ans tells ok e w v same.
    let m = g.K.Kind.meaning in
    let s = seen c.args.view.now in
    let is : shown c.reset.new.at ≡ reset m s (places s) e = c.reset.ensures.after ∙ same in
    from-least m g.met.K.Kind.lawful g.R.ResultKind.results s ok f e (shown c.reset.new.at) c.seek_on.result (shown c.seek_on.new.at) w is
    (c.seek_on.ensures.after f (λ p b h. search (rules, ans, tells)) ok (ap whole is ∙ reset-whole m s (places s) e w) (counted m g.met.K.Kind.lawful g.R.ResultKind.results s ok e (shown c.reset.new.at) c.args.count w is n))
