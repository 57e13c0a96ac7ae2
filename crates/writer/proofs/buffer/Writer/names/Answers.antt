use Rattle.std.proofs.Common.{◌≡◌, map, decimal, sym, ap, ◌∙◌, arith}
use Rattle.text.specs.Fields.{rejoined}
use Rattle.writer.proofs.Wrote.{wrote_as, names_below, all-names, named-first, named-after, named-here, named-absent, named-as}
use Rattle.writer.proofs.buffer.Writer.names.Goals as goal
use Rattle.writer.proofs.buffer.Writer.names.Goals.{then-contains, then-some, else-some, else-contains}

pub loop-n-preserved : goal.loop-n-preserved
loop-n-preserved g c =
    let l = c.loop-n in
    let s = c.args.set in
    let ns = names_below s l.n in
    elim c.if-contains.branch [
      | then-contains w ↦
          named-as w.some-is w.self-is (named-here s l.n (sym c.contains.ensures ∙ w.if-contains.true) (
          elim w.if-some.branch [
            | then-some v ↦ named-after ns l.n l.invariant v.if-some.true v.byte.ensures v.self-is w.number.ensures
            | else-some v ↦ named-first ns l.n l.invariant v.if-some.false v.self-is w.number.ensures
          ]
          ))
      | else-contains w ↦ named-as w.some-is w.self-is (named-absent s l.n (sym c.contains.ensures ∙ w.if-contains.false) l.invariant)
    ]

pub returns : goal.returns
returns g c =
    let l = c.loop-n in
    let e : l.n ≡ 32 = omega arith in
    wrote_as (ap (λ n. rejoined 44 (map decimal (names_below c.args.set n))) e ∙ ap (λ ns. rejoined 44 (map decimal ns)) (all-names c.args.set)) l.invariant.wrote
