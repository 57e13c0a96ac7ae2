use Rattle.std.proofs.Common.{◌∙◌, sym}
use Rattle.judging.proofs.Judging.{by_set}
use Rattle.judging.proofs.judge.Judge.outcome.Goals as goal

pub returns-clause-means : goal.returns-clause-means
returns-clause-means g c = λ un e h. c.set_outcome.ensures ∙ sym (by_set g.K.Kind.meaning g.R.ResultKind.results g.met.R.ResultKind.equal c.args.self.now un c.args.set e h)
