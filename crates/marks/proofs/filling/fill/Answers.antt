use Rattle.std.proofs.Common.{◌≡◌, ℕ, ◌<◌, ◌≤◌, ◌&&◌, length, leb, refl, sym, ap, ap₂, rules, arith, length-take}
use Rattle.std.proofs.lemmas.Bool.{le-leb, lt-leb, and_right}
use Rattle.lists.specs.Held.{seen}
use Rattle.tables.specs.Storage.{column_of}
use Rattle.marks.specs.Fills.{starts_in_all}
use Rattle.marks.proofs.Spanning.{spans-more, spans-full, spans-all}
use Rattle.marks.proofs.filling.fill.Goals as goal

pub returns-in_default-clause-room : goal.returns-in_default-clause-room
returns-in_default-clause-room g c =
    let m = g.K.Kind.meaning in
    let v = c.args.view.now in
    let l = c.loop-i in
    let qs = (seen v).quantities in
    let n = length c.mark_starts.new.marks in
    let over : n < starts_in_all m (seen v) 0 qs = spans-full m (seen v) (λ (k : ℕ). column_of v.entries.now v.counts.rows k) qs l.marks l.spans l.i l.at c.q-item.result l.invariant (search rules) (search rules) n c.in_default.ensures in
    sym (and_right (leb (length qs) (length l.spans)) _ (lt-leb _ n over))

pub loop-i-preserved : goal.loop-i-preserved
loop-i-preserved g c =
    let m = g.K.Kind.meaning in
    let v = c.args.view.now in
    let l = c.loop-i in
    let qs = (seen v).quantities in
    let room : l.i < length l.spans = omega (arith, ap length c.quantities_in_use-q-items.ensures, length-take v.counts.quantities v.quantities.now) in
    spans-more m (seen v) (λ (k : ℕ). column_of v.entries.now v.counts.rows k) qs l.marks l.spans l.i l.at c.q-item.result l.invariant (search rules) (search rules) c.mark_starts.new.marks c.in-Some.to _ room c.in-Some.ensures refl

pub returns-clause-room : goal.returns-clause-room
returns-clause-room g c =
    let m = g.K.Kind.meaning in
    let v = c.args.view.now in
    let l = c.loop-i in
    let qs = (seen v).quantities in
    let all : l.i ≡ length qs = omega (arith, ap length c.quantities_in_use-q-items.ensures) in
    let fits : length qs ≤ length l.spans = omega (arith, length-take v.counts.quantities v.quantities.now) in
    let done = spans-all m (seen v) (λ (k : ℕ). column_of v.entries.now v.counts.rows k) qs l.marks l.spans l.i l.at l.invariant all in
    sym (ap₂ ◌&&◌ (le-leb _ _ fits) (le-leb _ _ done.1))

pub returns-clause-filled : goal.returns-clause-filled
returns-clause-filled g c =
    let m = g.K.Kind.meaning in
    let v = c.args.view.now in
    let l = c.loop-i in
    let qs = (seen v).quantities in
    let all : l.i ≡ length qs = omega (arith, ap length c.quantities_in_use-q-items.ensures) in
    λ yes. (spans-all m (seen v) (λ (k : ℕ). column_of v.entries.now v.counts.rows k) qs l.marks l.spans l.i l.at l.invariant all).0
