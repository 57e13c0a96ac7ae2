use Rattle.std.proofs.Common.{◌≡◌, ℤ, pos, negsuc, neg_ℤ, ◌-ℤ◌, ◌≤ℤ◌, ◌<ℤ◌, w64, to_z, of_z, arith, sym, ◌∙◌}
use Rattle.std.specs.Int.{int_min}
use Rattle.std.proofs.lemmas.Int.{ints, clamps, by_lt_z}
use Rattle.std.proofs.lemmas.Bool.Decides.{nat_tests}
use Rattle.tables.specs.Margins.{margin_at, minutes_after}
use Rattle.margins.proofs.margin.in_opposition.Goals as goal

margin_at-before : (s e t r : ℤ) → t <ℤ s → r ≡ (s -ℤ t) -ℤ pos 1 → margin_at s e t ≡ r
margin_at-before s e t r h q = grind (arith, ints, nat_tests)

margin_at-after : (s e t r : ℤ) → s ≤ℤ t → e <ℤ t → r ≡ (t -ℤ e) -ℤ pos 1 → margin_at s e t ≡ r
margin_at-after s e t r h k q = grind (arith, ints, nat_tests)

margin_at-inside : (s e t r : ℤ) → s ≤ℤ t → t ≤ℤ e → r ≡ negsuc 0 -ℤ int_min (t -ℤ s) (e -ℤ t) → margin_at s e t ≡ r
margin_at-inside s e t r h k q = grind (arith, ints, nat_tests)

-- how long before and after a time a period begins and ends says all
moved : (s e t b a : ℤ) → b ≡ s -ℤ t → a ≡ t -ℤ e → margin_at b (neg_ℤ a) (pos 0) ≡ margin_at s e t
moved s e t b a p q = by_lt_z t s
    (λ h. margin_at-before b (neg_ℤ a) (pos 0) ((s -ℤ t) -ℤ pos 1) (omega (arith, ints)) (omega (arith, ints)) ∙ sym (margin_at-before s e t ((s -ℤ t) -ℤ pos 1) h (omega (arith, ints))))
    (λ h. by_lt_z e t
    (λ k. margin_at-after b (neg_ℤ a) (pos 0) ((t -ℤ e) -ℤ pos 1) (omega (arith, ints)) (omega (arith, ints)) (omega (arith, ints)) ∙ sym (margin_at-after s e t ((t -ℤ e) -ℤ pos 1) h k (omega (arith, ints))))
    (λ k. margin_at-inside b (neg_ℤ a) (pos 0) (negsuc 0 -ℤ int_min (t -ℤ s) (e -ℤ t)) (omega (arith, ints)) (omega (arith, ints)) (omega (arith, ints, clamps)) ∙ sym (margin_at-inside s e t (negsuc 0 -ℤ int_min (t -ℤ s) (e -ℤ t)) h k (omega (arith, ints, clamps)))))

pub returns : goal.returns
returns c = omega (
  arith,
  ints,
  c.over_period.ensures,
  moved (minutes_after c.args.passing.time c.args.about.from) (minutes_after c.args.passing.time c.args.about.to) c.args.passing.t
      (to_z w64 (of_z w64 (to_z w64 (of_z w64 c.minutes_after-from.result) -ℤ to_z w64 (of_z w64 c.from-t.result))))
      (to_z w64 (of_z w64 (to_z w64 (of_z w64 c.from-t.result) -ℤ to_z w64 (of_z w64 c.minutes_after-to.result)))) (omega (arith, ints)) (omega (arith, ints)),
)
