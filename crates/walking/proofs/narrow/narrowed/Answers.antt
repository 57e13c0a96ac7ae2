use Rattle.std.proofs.Common.{take, bit_and, sym, ap, ap₂, ◌∙◌}
use Rattle.walking.proofs.Joint.{joint-with, joint-with_turned, within_first}
use Rattle.walking.proofs.narrow.narrowed.Goals as goal

pub returns : goal.returns
returns g c =
    let x = c.args.x.now in
    let y = c.args.y.now in
    let s = c.args.met in
    let here = bit_and (bit_and s.here x.of_a) y.of_b in
    let there = bit_and (bit_and s.exchanged y.of_a) x.of_b in
    let xs = take x.eithers x.either in
    let ys = take y.eithers y.either in
    ap₂ (λ h e. record { here = h; exchanged = e })
    (c.in_all.ensures.is ∙ ap (bit_and here) c.held_for_one-for_one.ensures ∙ sym (joint-with here xs ys (within_first s.here x.of_a y.of_b c.in_all.ensures.fits)))
    (c.in_all-2.ensures.is ∙ ap (bit_and there) c.held_for_one-for_one.ensures ∙ sym (joint-with_turned there xs ys (within_first s.exchanged y.of_a x.of_b c.in_all-2.ensures.fits)))
