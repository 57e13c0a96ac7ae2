use Rattle.std.proofs.Common.{◌∙◌, ℕ, not, sym, ap, arith, get_or}
use Rattle.std.proofs.lemmas.List.{get_or_read}
use Rattle.std.specs.Int.{bit_at}
use Rattle.judging.proofs.SetBits.{bit_kept, bit_set}
use Rattle.judging.proofs.unlike.unlike.Goals as goal
use Rattle.judging.proofs.unlike.unlike.Goals.{then-differ, else-differ}

pub loop-k-preserved : goal.loop-k-preserved
loop-k-preserved g c = λ k.
    let xs = c.args.results.now in
    let unequal = λ (x : g.row.R.Denot). not (g.R.ResultKind.results.same c.args.res x) in
    let p = λ (j : ℕ). unequal (get_or xs j c.args.res) in
    let i = c.loop-k.k in
    let told = ap unequal (sym (get_or_read xs i c.index-results-k.result c.loop-k-test.true c.index-results-k.is c.args.res)) ∙ sym c.differ.ensures in
    elim c.if-differ.branch [
      | then-differ w ↦ ap (λ s. bit_at s k) w.set-is ∙ bit_set p c.loop-k.set i c.loop-k.invariant (omega (arith, c.requires, c.loop-k-test.true)) (told ∙ w.if-differ.true) k
      | else-differ w ↦ ap (λ s. bit_at s k) w.set-is ∙ bit_kept p c.loop-k.set i c.loop-k.invariant (told ∙ w.if-differ.false) k
    ]
