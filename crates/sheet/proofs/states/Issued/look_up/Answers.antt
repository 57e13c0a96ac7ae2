use Rattle.lists.specs.Held.{encounter_of, lists_of}
use Rattle.tables.specs.Storage.{contents_of}
use Rattle.tables.proofs.Looking.{looked-up-rightly}
use Rattle.runs.proofs.Standing.{look-up-in-run}
use Rattle.sheet.proofs.states.Issued.look_up.Goals as goal

pub returns : goal.returns
returns g c =
    let answer = c.look_up_in.ensures.answer c.args.self.now.few in
    record {
      answer = answer;
      rightly = looked-up-rightly g.K.Kind.meaning g.R.ResultKind.results (contents_of c.args.self.now.counts (lists_of c.args.lists.now)) (encounter_of c.args.e.now);
      in_run = λ calls h. look-up-in-run g.K.Kind.meaning g.met.K.Kind.lawful g.R.ResultKind.results g.met.R.ResultKind.equal calls c.args.self.now.counts (lists_of c.args.lists.now) (encounter_of c.args.e.now) h c.look_up_in.result answer;
    }
