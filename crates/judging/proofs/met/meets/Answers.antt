use Rattle.std.proofs.Common.{◌∙◌, ℕ, ◌&&◌, sym, ap, arith}
use Rattle.std.proofs.lemmas.Bool.{and_from, and_left, and_right}
use Rattle.std.specs.Int.{bit_at}
use Rattle.sets.specs.Sets.{in_use}
use Rattle.tables.specs.Outcomes.{met}
use Rattle.tables.specs.Storage.{column_of}
use Rattle.lists.specs.Held.{encounter_of, seen}
use Rattle.judging.proofs.InSet.{bit-has}
use Rattle.judging.proofs.SetBits.{bit_kept, bit_set}
use Rattle.judging.proofs.met.meets.Goals as goal
use Rattle.judging.proofs.met.meets.Goals.{then-has+then-meets_column, else-has, else-has-via-then-has+else-meets_column, else-has-via-else-has}

pub loop-k-preserved : goal.loop-k-preserved
loop-k-preserved g c = λ j.
    let v = c.args.view.now in
    let i = c.loop-k.k in
    let is_met = λ (k : ℕ). met g.K.Kind.meaning (seen v).rows (column_of v.entries.now v.counts.rows k) (encounter_of c.args.e.now) in
    let p = λ (k : ℕ). in_use v.counts k && is_met k in
    let used = sym (bit-has c.in_use-in_use.result i (in_use v.counts i) (c.in_use-in_use.ensures i c.loop-k-test.true)) ∙ sym c.has.ensures in
    elim c.if-has.branch [
      | then-has+then-meets_column w ↦ ap (λ s. bit_at s j) w.set-is ∙ bit_set p c.loop-k.set i c.loop-k.invariant (omega (arith, c.loop-k-test.true)) (and_from _ _ (used ∙ w.if-has.true) (sym (w.meets_column.ensures c.loop-k-test.true) ∙ w.if-meets_column.true)) j
      | else-has w ↦ ap (λ s. bit_at s j) w.set-is ∙ bit_kept p c.loop-k.set i c.loop-k.invariant
          (elim w.else-has.branch [
            | else-has-via-then-has+else-meets_column w' ↦ and_right (in_use v.counts i) (is_met i) (sym (w'.meets_column.ensures c.loop-k-test.true) ∙ w'.if-meets_column.false)
            | else-has-via-else-has w' ↦ and_left (in_use v.counts i) (is_met i) (used ∙ w'.if-has.false)
          ]) j
    ]
