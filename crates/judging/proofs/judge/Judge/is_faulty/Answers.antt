use Rattle.std.proofs.Common.{◌≡◌, ◌∙◌, Bool, false, ◌||◌, sym, ap, not}
use Rattle.std.proofs.lemmas.Bool.{eq-eqb}
use Rattle.tables.specs.Contents.{exchange}
use Rattle.tables.specs.Outcomes.{alike, is_clash, is_gap, outcome, symmetric}
use Rattle.lists.specs.Held.{seen}
use Rattle.judging.proofs.Judging.{symmetric-by_set}
use Rattle.judging.proofs.judge.Judge.is_faulty.Goals as goal
use Rattle.judging.proofs.judge.Judge.is_faulty.Goals.{then-is_gap, else-is_gap}

neither : (a b t : Bool) → a ≡ false → b ≡ false → t ≡ (a || (b || t))
neither a b t p q = sym (ap (λ x. x || (b || t)) p ∙ ap (λ x. x || t) q)

pub returns-then-met-clause-means : goal.returns-then-met-clause-means
returns-then-met-clause-means g c = λ un e h.
    let v = c.args.self.now.view.now in
    let m = g.K.Kind.meaning in
    let r = g.R.ResultKind.results in
    let here = c.outcome-here.ensures.means un e h.here in
    let o = outcome m r (seen v) e in
    let asymmetric = c.differs_exchanged.ensures.means un e h ∙ ap (λ o. not (alike r o (outcome m r (seen v) (exchange (seen v) e)))) here in
    elim c.if-is_gap.branch [
      | then-is_gap w ↦ cc
      | else-is_gap w ↦ asymmetric ∙ neither (is_gap r o) (is_clash r o) (not (symmetric m r (seen v) e))
          (ap (is_gap r) (sym here) ∙ sym c.is_gap.ensures ∙ w.if-is_gap.false) (ap (is_clash r) (sym here) ∙ sym w.is_clash.ensures ∙ sym w.value-is ∙ c.if-is_clash.false)
    ]

pub returns-else-met-clause-means : goal.returns-else-met-clause-means
returns-else-met-clause-means g c = λ un e h.
    let v = c.args.self.now.view.now in
    let m = g.K.Kind.meaning in
    let r = g.R.ResultKind.results in
    let here = c.outcome-here.ensures.means un e h.here in
    let o = outcome m r (seen v) e in
    let same = c.if-met.false in
    let alike = ap not (eq-eqb c.args.met.here c.args.met.exchanged same ∙ sym (symmetric-by_set m r g.met.R.ResultKind.equal c.args.self.now un c.args.met e same h)) in
    elim c.if-is_gap.branch [
      | then-is_gap w ↦ cc
      | else-is_gap w ↦ alike ∙ neither (is_gap r o) (is_clash r o) (not (symmetric m r (seen v) e))
          (ap (is_gap r) (sym here) ∙ sym c.is_gap.ensures ∙ w.if-is_gap.false) (ap (is_clash r) (sym here) ∙ sym w.is_clash.ensures ∙ sym w.value-is ∙ c.if-is_clash.false)
    ]
