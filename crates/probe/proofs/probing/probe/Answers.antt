use Rattle.lists.specs.Held.{encounter_of}
use Rattle.probe.specs.Probed.{four}
use Rattle.probe.proofs.Exchanging.{same-exchanged}
use Rattle.probe.proofs.InRuns.{probe-in-run}
use Rattle.probe.proofs.probing.probe.Goals as goal

pub returns : goal.returns
returns g c = record {
  answer = c.answer.ensures;
  exchanged = same-exchanged g.K.Kind.meaning (four c.args.sheets.now) (encounter_of c.args.e.now) c.args.flights.a c.args.flights.b c.args.flights.passing;
  in_run = λ calls h. probe-in-run g.K.Kind.meaning g.met.K.Kind.lawful calls (four c.args.sheets.now) h (encounter_of c.args.e.now) c.args.flights.a c.args.flights.b c.args.flights.passing c.answer.result c.answer.ensures;
}
