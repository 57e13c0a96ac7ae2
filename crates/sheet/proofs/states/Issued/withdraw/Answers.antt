use Rattle.std.proofs.Common.{refl}
use Rattle.lists.specs.Held.{lists_of}
use Rattle.sheet.proofs.InRuns.{withdraw-made}
use Rattle.sheet.proofs.states.Issued.withdraw.Goals as goal

pub returns : goal.returns
returns g c = record {
  answer = c.freed.ensures;
  in_run = withdraw-made g.K.Kind.meaning g.met.K.Kind.lawful g.R.ResultKind.results g.met.R.ResultKind.equal c.args.self.counts (lists_of c.args.lists.now) c.args.self refl c.freed.result c.freed.ensures;
}
