use Rattle.std.proofs.Common.{ℕ, ◌<◌, ◌≤◌, length, arith}
use Rattle.lists.specs.Held.{seen}
use Rattle.tables.specs.Storage.{column_of}
use Rattle.marks.proofs.Spanning.{up-last, up-more}
use Rattle.marks.proofs.filling.mark_starts.Goals as goal

pub returns-in_default : goal.returns-in_default
returns-in_default g c =
    let v = c.args.view.now in
    let l = c.loop-place in
    let h : c.args.from ≤ l.place = omega arith in
    let lt : l.place < length l.marks = omega arith in
    up-last g.K.Kind.meaning (seen v) (λ (k : ℕ). column_of v.entries.now v.counts.rows k) c.args.i c.args.q g.met.K.Kind.lawful c.args.marks.now l.marks c.args.from l.place l.at c.mark.result l.invariant h lt c.mark.ensures c.in_default.ensures

pub loop-place-preserved : goal.loop-place-preserved
loop-place-preserved g c =
    let v = c.args.view.now in
    let l = c.loop-place in
    let h : c.args.from ≤ l.place = omega arith in
    let lt : l.place < length l.marks = omega arith in
    up-more g.K.Kind.meaning (seen v) (λ (k : ℕ). column_of v.entries.now v.counts.rows k) c.args.i c.args.q g.met.K.Kind.lawful c.args.marks.now l.marks c.args.from l.place l.at c.mark.result l.invariant h lt c.mark.ensures c.in-Some.next c.in-Some.ensures
