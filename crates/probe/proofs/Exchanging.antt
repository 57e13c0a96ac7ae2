-- A probe with the flights exchanged answers the same. Assumes nothing.
use Rattle.std.proofs.Common.{◌≡◌, Bool, true, cond, ◌&&◌, ℤ, pos, ◌-ℤ◌, ◌*ℤ◌, Ok, Err, Result, sym, refl, ap, ◌∙◌, ap₂, inl, inr, arith}
use Rattle.std.proofs.lemmas.Bool.Decides.{nat_tests}
use Rattle.std.proofs.lemmas.Int.{ints}
use Rattle.kinds.specs.Meaning.{Meaning}
use Rattle.faults.specs.declared.SheetFault.TheVariants.{Lists as ListsFault}
use Rattle.results.specs.Results.{Results, same_number}
use Rattle.results.specs.Figures.{figures}
use Rattle.results.specs.Periods.{periods}
use Rattle.results.specs.declared.figure.Figure.{Figure}
use Rattle.results.specs.declared.period.Period.{Period}
use Rattle.tables.specs.Contents.{Encounter}
use Rattle.tables.specs.Lookups.{found, look_up, told}
use Rattle.tables.specs.Storage.{in_order}
use Rattle.tables.specs.Margins.{difference}
use Rattle.tables.proofs.Looking.{looked-up-rightly}
use Rattle.tables.proofs.Margining.{margins-mean}
use Rattle.fixes.specs.Limits.{fix_in_limits, passing_in_limits}
use Rattle.fixes.specs.declared.fix.Direction.{Direction}
use Rattle.fixes.specs.declared.fix.Direction.TheVariants.{Same, Opposite}
use Rattle.fixes.specs.declared.fix.Fix.{Fix}
use Rattle.fixes.specs.declared.fix.Passing.{Passing}
use Rattle.probe.specs.declared.fault.Letter.TheVariants.{V, L, G, N}
use Rattle.probe.specs.declared.fault.ProbeFault.{ProbeFault}
use Rattle.probe.specs.declared.fault.ProbeFault.TheVariants.{Limits}
use Rattle.probe.specs.declared.minima.Along.{Along}
use Rattle.probe.specs.declared.minima.Along.TheVariants.{Trail, Opposition}
use Rattle.probe.specs.declared.minima.Minima.{Minima}
use Rattle.probe.specs.Lettering.{lettered, raised}
use Rattle.probe.specs.Probed.{Source, Four, held, answer_of, and_then, along_of, minima_of, longitudinal_margin, verdict_of, in_limits}
use Rattle.probe.specs.Exchanged.{exchanged, Fit, FitAlong, FitAll, SameExchanged}

same_number_lem : (x y : ℤ) → same_number x y ≡ true → x ≡ y
same_number_lem x y h = grind (arith, ints)

pub figure-equal : (x y : Figure) → figures.same x y ≡ true → x ≡ y
figure-equal x y h = ap (λ z. record { value = z }) (same_number_lem x.value y.value h)

same_numbers : (a b c d : ℤ) → (same_number a b && same_number c d) ≡ true → (a ≡ b) × (c ≡ d)
same_numbers a b c d h = (grind (arith, ints, nat_tests), grind (arith, ints, nat_tests))

pub period-equal : (x y : Period) → periods.same x y ≡ true → x ≡ y
period-equal x y h = let e = same_numbers x.from y.from x.to y.to h in ap₂ (λ s e. record { from = s; to = e }) e.0 e.1

module _ {X C R : Type 0} (m : Meaning X C) (r : Results R) (equal : (x y : R) → r.same x y ≡ true → x ≡ y) (s : Source X C R) (e : Encounter X) where
  look-alike : Fit m r s e → look_up m r (held m s) (exchanged e) ≡ look_up m r (held m s) e
  look-alike f =
      let k = looked-up-rightly m r (held m s) e in
      elim (k.settled f.long f.in_range f.faultless) [
        | inl b ↦ k.still_barred f.faultless b ∙ sym b
        | inr a ↦ let y = k.still_found f.faultless a.0 a.1 in y.1.0 ∙ ap found (sym (equal a.0 y.0 y.1.1)) ∙ sym a.1
      ]

  answer-alike : Fit m r s e → answer_of m r s (exchanged e) ≡ answer_of m r s e
  answer-alike f = ap (λ l. cond (in_order m r s.counts s.lists) (told l) (Err ListsFault)) (look-alike f)

module _ {X C : Type 0} (m : Meaning X C) (s : Four X C) (e : Encounter X) where
  along-alike : (d : Direction) → FitAlong m s e d → along_of m s (exchanged e) d ≡ along_of m s e d
  along-alike Same f = ap (λ o. and_then (lettered G o) (λ x. Ok (Trail x))) (answer-alike m figures figure-equal s.g e f)
  along-alike Opposite f = ap (λ o. and_then (lettered N o) (λ x. Ok (Opposition x))) (answer-alike m periods period-equal s.n e f)

  minima-alike : (d : Direction) → FitAll m s e d → minima_of m s (exchanged e) d ≡ minima_of m s e d
  minima-alike d f =
      ap (λ o. and_then (lettered V o) (λ v. and_then (lettered L (answer_of m figures s.l (exchanged e))) (λ l. and_then (along_of m s (exchanged e) d) (λ k. Ok (record { vertical = v; lateral = l; along = k }))))) (answer-alike m figures figure-equal s.v e f.0)
      ∙ ap (λ o. and_then (lettered V (answer_of m figures s.v e)) (λ v. and_then (lettered L o) (λ l. and_then (along_of m s (exchanged e) d) (λ k. Ok (record { vertical = v; lateral = l; along = k }))))) (answer-alike m figures figure-equal s.l e f.1)
      ∙ ap (λ o. and_then (lettered V (answer_of m figures s.v e)) (λ v. and_then (lettered L (answer_of m figures s.l e)) (λ l. and_then o (λ k. Ok (record { vertical = v; lateral = l; along = k }))))) (along-alike d f.2)

along-margin : (a b : Fix) (p : Passing) (k : Along) → longitudinal_margin b a p k ≡ longitudinal_margin a b p k
along-margin a b p (Trail x) = ap (λ d. d -ℤ (pos 60 *ℤ x.value)) (margins-mean.exchanged b.time a.time)
along-margin a b p (Opposition x) = refl

verdict-alike : (a b : Fix) (p : Passing) (k : Minima) → verdict_of b a p k ≡ verdict_of a b p k
verdict-alike a b p k =
    ap (λ d. record { vertical = (pos 100 *ℤ d) -ℤ k.vertical.value; lateral = difference b.lateral a.lateral -ℤ (pos 10 *ℤ k.lateral.value); longitudinal = longitudinal_margin b a p k.along }) (margins-mean.exchanged b.level a.level)
    ∙ ap (λ d. record { vertical = (pos 100 *ℤ difference a.level b.level) -ℤ k.vertical.value; lateral = d -ℤ (pos 10 *ℤ k.lateral.value); longitudinal = longitudinal_margin b a p k.along }) (margins-mean.exchanged b.lateral a.lateral)
    ∙ ap (λ z. record { vertical = (pos 100 *ℤ difference a.level b.level) -ℤ k.vertical.value; lateral = difference a.lateral b.lateral -ℤ (pos 10 *ℤ k.lateral.value); longitudinal = z }) (along-margin a b p k.along)

limits-alike : (x y z : Bool) → (y && (x && z)) ≡ (x && (y && z))
limits-alike x y z = grind (arith, nat_tests)

verdicts : (a b : Fix) (p : Passing) (o : Result Minima ProbeFault) → and_then o (λ k. Ok (verdict_of b a p k)) ≡ and_then o (λ k. Ok (verdict_of a b p k))
verdicts a b p (Ok k) = ap Ok (verdict-alike a b p k)
verdicts a b p (Err f) = refl

pub same-exchanged : {X C : Type 0} (m : Meaning X C) (s : Four X C) (e : Encounter X) (a b : Fix) (p : Passing) → SameExchanged m s e a b p
same-exchanged m s e a b p f =
    ap₂ (λ t o. cond t (and_then (raised o) (λ k. Ok (verdict_of b a p k))) (Err Limits)) (limits-alike (fix_in_limits a) (fix_in_limits b) (passing_in_limits p)) (minima-alike m s e p.direction f)
    ∙ ap (λ o. cond (in_limits a b p) o (Err Limits)) (verdicts a b p (raised (minima_of m s e p.direction)))
