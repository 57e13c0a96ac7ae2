use Rattle.std.proofs.Common.{ap, ◌∙◌}
use Rattle.lists.specs.Held.{seen, shown}
use Rattle.turning.proofs.Turns.{same-on}
use Rattle.seeking.proofs.Seeking.{tested, hit, step, over, unfinished}
use Rattle.seeking.proofs.one_by_one.seek_on.Goals as goal

pub returns-then-is_sought : goal.returns-then-is_sought
returns-then-is_sought g c = record {
  after = λ f t ok w n. hit g.K.Kind.meaning g.met.K.Kind.lawful g.R.ResultKind.results (seen c.args.view.now) ok f (shown c.args.at.now) c.args.count c.loop.counter (shown c.loop.at)
      (c.loop.invariant.0 f t ok w n) (tested f t c.is_sought.ensures ∙ ap f c.encounter.ensures) c.if-is_sought.true;
  lent = c.loop.invariant.1;
}

pub returns-then-not-turn : goal.returns-then-not-turn
returns-then-not-turn g c = record {
  after = λ f t ok w n. over g.K.Kind.meaning g.met.K.Kind.lawful g.R.ResultKind.results (seen c.args.view.now) ok f (shown c.args.at.now) c.args.count c.loop.counter (shown c.loop.at) (shown c.turn.new.at)
      (c.loop.invariant.0 f t ok w n) (tested f t c.is_sought.ensures ∙ ap f c.encounter.ensures) c.if-is_sought.false c.turn.ensures.after c.if-not-turn.true;
  lent = same-on c.loop.invariant.1 c.turn.ensures.lent;
}

pub loop-preserved : goal.loop-preserved
loop-preserved g c = (
  λ f t ok w n. step g.K.Kind.meaning g.met.K.Kind.lawful g.R.ResultKind.results (seen c.args.view.now) ok f (shown c.args.at.now) c.args.count c.loop.counter (shown c.loop.at) (shown c.turn.new.at)
      (c.loop.invariant.0 f t ok w n) (tested f t c.is_sought.ensures ∙ ap f c.encounter.ensures) c.if-is_sought.false c.turn.ensures.after c.if-not-turn.false,
  same-on c.loop.invariant.1 c.turn.ensures.lent,
)

pub returns : goal.returns
returns g c = record {
  after = λ f t ok w n. unfinished g.K.Kind.meaning g.met.K.Kind.lawful g.R.ResultKind.results (seen c.args.view.now) ok f (shown c.args.at.now) c.args.count c.loop.counter (shown c.loop.at)
      c.loop-test.false (c.loop.invariant.0 f t ok w n);
  lent = c.loop.invariant.1;
}
