use Rattle.std.proofs.Common.{◌∙◌, sym, ap, not}
use Rattle.std.proofs.lemmas.Bool.{eq-eqb}
use Rattle.tables.specs.Contents.{exchange}
use Rattle.tables.specs.Outcomes.{alike, outcome}
use Rattle.lists.specs.Held.{seen}
use Rattle.judging.proofs.Judging.{symmetric-by_set}
use Rattle.judging.proofs.judge.Judge.is_asymmetric.Goals as goal

pub returns-then-met-clause-means : goal.returns-then-met-clause-means
returns-then-met-clause-means g c = λ un e h.
    let v = c.args.self.now.view.now in
    let r = g.R.ResultKind.results in
    c.differs_exchanged.ensures.means un e h ∙ ap (λ o. not (alike r o (outcome g.K.Kind.meaning r (seen v) (exchange (seen v) e)))) (c.outcome.ensures.means un e h.here)

pub returns-else-met-clause-means : goal.returns-else-met-clause-means
returns-else-met-clause-means g c = λ un e h.
    let same = c.if-met.false in
    ap not (eq-eqb c.args.met.here c.args.met.exchanged same ∙ sym (symmetric-by_set g.K.Kind.meaning g.R.ResultKind.results g.met.R.ResultKind.equal c.args.self.now un c.args.met e same h))
