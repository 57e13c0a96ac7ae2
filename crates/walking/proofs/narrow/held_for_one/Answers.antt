use Rattle.std.proofs.Common.{take, bit_and, bit_or, rules, ◌∙◌}
use Rattle.std.proofs.lemmas.Iterator.{YieldsList-from_slice, YieldsList-from_take, YieldsList-from_zip}
use Rattle.std.proofs.lemmas.Iterator.Consumers.{fold_from_yields_List}
use Rattle.walking.proofs.Joint.{joint-folds}
use Rattle.walking.proofs.narrow.held_for_one.Goals as goal

pub returns : goal.returns
returns g c =
    let x = c.args.x.now in
    let y = c.args.y.now in
    let of_a = YieldsList-from_take {s = c.zip.result.a} x.eithers (YieldsList-from_slice {s = c.zip.result.a.iter} x.either (cc)) (cc) in
    let of_b = YieldsList-from_take {s = c.zip.result.b} y.eithers (YieldsList-from_slice {s = c.zip.result.b.iter} y.either (cc)) (cc) in
    fold_from_yields_List _ (λ s p. bit_and s (bit_or p.0 p.1)) 4294967295 c.fold.result c.fold.ensures.ran (YieldsList-from_zip {s = c.zip.result} of_a of_b) (λ s p t f h. search rules)
    ∙ joint-folds 4294967295 (take x.eithers x.either) (take y.eithers y.either)
