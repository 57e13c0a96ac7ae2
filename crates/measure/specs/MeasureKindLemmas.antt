use Rattle.std.specs.Prelude.{◌≡◌, ◌≤◌, true, ◌&&◌, ℤ, pos, ◌+ℤ◌, int_le}
use Rattle.std.proofs.Common.{ap, ◌∙◌, arith}
use Rattle.std.proofs.lemmas.Int.{ints}
use Rattle.kinds.proofs.Earliest.{Missed}
use Rattle.measure.specs.Measures.{measure_rank, is_measure, within}
use Rattle.measure.specs.declared.Band.{Band}

pub same-lo : (p v w : ℤ) → is_measure p ≡ true → is_measure v ≡ true → is_measure w ≡ true → measure_rank v ≤ measure_rank w → Missed measure_rank is_measure v w p → int_le p v ≡ int_le p w
same-lo p v w a b c q h = grind (arith, ints)

pub same-hi : (p v w : ℤ) → is_measure p ≡ true → is_measure v ≡ true → is_measure w ≡ true → measure_rank v ≤ measure_rank w → Missed measure_rank is_measure v w (p +ℤ pos 1) → int_le v p ≡ int_le w p
same-hi p v w a b c q h = grind (arith, ints)

pub same-within : (c : Band) (v w : ℤ) → is_measure c.lo ≡ true → is_measure c.hi ≡ true → is_measure v ≡ true → is_measure w ≡ true → measure_rank v ≤ measure_rank w
    → Missed measure_rank is_measure v w c.lo × Missed measure_rank is_measure v w (c.hi +ℤ pos 1) → within c v ≡ within c w
same-within c v w l h a b q s = ap (λ x. x && int_le v c.hi) (same-lo c.lo v w l a b q s.0) ∙ ap (λ x. int_le c.lo w && x) (same-hi c.hi v w h a b q s.1)
