use Rattle.std.proofs.Common.{◌<◌, length, refl, ◌∙◌, arith}
use Rattle.lists.specs.Held.{lists_of, shown}
use Rattle.replay.proofs.Reaching.{reached-none, reached-more, reached-all}
use Rattle.replay.proofs.playing.play.Goals as goal

pub loop-i-init : goal.loop-i-init
loop-i-init g c = (
  reached-none g.K.Kind.meaning g.R.ResultKind.results c.args.calls.now (lists_of c.args.lists.now) (shown c.args.at.now) c.args.answers.now g.met.K.Kind.lawful g.met.R.ResultKind.equal _ refl c.open.ensures c.requires.lengths,
  record { quantities = refl; rows = refl; entries = refl; results = refl },
  record { a = refl; b = refl; pair = refl },
)

pub loop-i-preserved : goal.loop-i-preserved
loop-i-preserved g c =
    let h = c.loop-i.invariant in
    let s = c.answer-sheet.ensures in
    let few : c.loop-i.i < length c.args.answers.now = omega arith in
    let more = reached-more g.K.Kind.meaning g.R.ResultKind.results c.args.calls.now (lists_of c.args.lists.now) (shown c.args.at.now) c.args.answers.now g.met.K.Kind.lawful g.met.R.ResultKind.equal
    c.loop-i.i c.loop-i.sheet (lists_of c.loop-i.lists) (shown c.loop-i.at) c.loop-i.answers h.0 c.loop-i-test.true few c.index-calls-i.result c.index-calls-i.is
    c.answer-sheet.result (lists_of c.answer-sheet.new.lists) (shown c.answer-sheet.new.at) _ s.stepped s.showing in (
      rw s.answered more,
      record { quantities = s.lent.quantities ∙ h.1.quantities; rows = s.lent.rows ∙ h.1.rows; entries = s.lent.entries ∙ h.1.entries; results = s.lent.results ∙ h.1.results },
      record { a = s.lent_showing.a ∙ h.2.a; b = s.lent_showing.b ∙ h.2.b; pair = s.lent_showing.pair ∙ h.2.pair },
    )

pub returns : goal.returns
returns g c =
    let h = c.loop-i.invariant in
    record {
      replayed = reached-all g.K.Kind.meaning g.R.ResultKind.results c.args.calls.now (lists_of c.args.lists.now) (shown c.args.at.now) c.args.answers.now g.met.K.Kind.lawful g.met.R.ResultKind.equal c.loop-i.i c.loop-i.sheet (lists_of c.loop-i.lists) (shown c.loop-i.at) c.loop-i.answers h.0 (omega arith);
      lent = h.1;
      lent_showing = h.2;
    }
