use Rattle.std.proofs.Common.{refl}
use Rattle.lists.specs.Held.{lists_of, shown}
use Rattle.tables.specs.Storage.{contents_of}
use Rattle.tables.proofs.Issuing.{issued-rightly}
use Rattle.tables.proofs.Testing.{in_order_lem}
use Rattle.sheet.proofs.InRuns.{issue-made}
use Rattle.sheet.proofs.states.Draft.issue.Goals as goal

pub returns : goal.returns
returns g c =
    let h = c.examined.ensures in
    record {
      answer = h.answer;
      left = h.left;
      lent = h.lent;
      rightly = λ first. issued-rightly g.K.Kind.meaning g.met.K.Kind.lawful g.R.ResultKind.results g.met.R.ResultKind.equal (contents_of c.args.self.counts (lists_of c.args.lists.now))
          ((in_order_lem g.K.Kind.meaning g.R.ResultKind.results c.args.self.counts (lists_of c.args.lists.now)).0 first).1 (shown c.args.at.now);
      in_run = issue-made g.K.Kind.meaning g.met.K.Kind.lawful g.R.ResultKind.results g.met.R.ResultKind.equal c.args.self.counts (lists_of c.args.lists.now) (shown c.args.at.now) c.args.self refl c.examined.result _ h.answer h.left;
    }
