-- A probe by four sheets that stand for runs of calls answers by the contents that the calls make. Assumes nothing.
use Rattle.std.proofs.Common.{◌≡◌, Bool, true, false, cond, ◌⊎◌, List, ℤ, Ok, Err, Result, sym, refl, ap, ◌∙◌, subst, ap₂, inl, inr, arith}
use Rattle.std.proofs.lemmas.Int.{ints}
use Rattle.std.specs.Cmp.Derive.{both_true}
use Rattle.kinds.specs.Meaning.{Meaning, Lawful}
use Rattle.faults.specs.declared.LookupFault.TheVariants.{Barred}
use Rattle.faults.specs.declared.SheetFault.{SheetFault}
use Rattle.faults.specs.declared.SheetFault.TheVariants.{Lookup}
use Rattle.results.specs.Results.{Results, Equal, same_number}
use Rattle.results.specs.Figures.{figures}
use Rattle.results.specs.Periods.{periods}
use Rattle.tables.specs.Calls.{Call, made}
use Rattle.tables.specs.Contents.{Encounter, InRange, whole}
use Rattle.tables.specs.Faultless.{Faultless}
use Rattle.runs.specs.Standing.{LookUpInRun}
use Rattle.runs.proofs.Standing.{look-up-in-run}
use Rattle.fixes.specs.declared.fix.Direction.{Direction}
use Rattle.fixes.specs.declared.fix.Direction.TheVariants.{Same, Opposite}
use Rattle.fixes.specs.declared.fix.Fix.{Fix}
use Rattle.fixes.specs.declared.fix.Passing.{Passing}
use Rattle.fixes.specs.declared.verdict.Verdict.{Verdict}
use Rattle.probe.specs.declared.fault.Letter.{Letter}
use Rattle.probe.specs.declared.fault.Letter.TheVariants.{V, L, G, N}
use Rattle.probe.specs.declared.fault.Lettered.{Lettered}
use Rattle.probe.specs.declared.fault.ProbeFault.{ProbeFault}
use Rattle.probe.specs.declared.fault.ProbeFault.TheVariants.{Limits, Sheet}
use Rattle.probe.specs.declared.minima.Along.TheVariants.{Trail, Opposition}
use Rattle.probe.specs.declared.minima.Minima.{Minima}
use Rattle.probe.specs.Lettering.{lettered, raised}
use Rattle.probe.specs.Probed.{Source, Four, Answers, answer_of, answers_of, and_then, along_by, minima_of, minima_by, verdict_of, in_limits, probed_by, probed}
use Rattle.probe.specs.Exchanged.{exchanged, Fit, FitAlong, FitAll}
use Rattle.probe.specs.InRun.{Runs, StandsIssued, AllStand, answer_made, answers_made, InRangeAlong, InRangeOfAll, ProbeInRun}
use Rattle.probe.proofs.Exchanging.{figure-equal, period-equal, same-exchanged}

-- results that mean the same only where they are the same
plain : {R : Type 0} (r : Results R) → ((x y : R) → r.same x y ≡ true → x ≡ y) → ((x : R) → r.same x x ≡ true) → Equal r
plain r equal itself = record {
  itself = itself;
  back = λ x y h. subst (λ z. r.same z x ≡ true) (equal x y h) (itself x);
  on = λ x y z h k. subst (λ w. r.same x w ≡ true) (equal y z k) h;
}

number-itself : (x : ℤ) → same_number x x ≡ true
number-itself x = grind (arith, ints)

figures-equal : Equal figures
figures-equal = plain figures figure-equal (λ x. number-itself x.value)

periods-equal : Equal periods
periods-equal = plain periods period-equal (λ x. both_true (number-itself x.from) (number-itself x.to))

-- a look-up that is barred or has a result, and what that comes to with a letter
abbrev Decided : {R : Type 0} → Result R SheetFault → Type 0
Decided {R} o = (o ≡ Err (Lookup Barred)) ⊎ ((x : R) × (o ≡ Ok x))

abbrev BarredOr : {Y : Type 0} → Result Y Lettered → Type 0
BarredOr {Y} o = ((k : Letter) × (o ≡ Err (record { letter = k; fault = Lookup Barred }))) ⊎ ((y : Y) × (o ≡ Ok y))

then-barred : {X Y : Type 0} (k : Letter) (o : Result X SheetFault) (f : X → Result Y Lettered) → Decided o → ((x : X) → BarredOr (f x)) → BarredOr (and_then (lettered k o) f)
then-barred k o f (inl b) next = inl (k, ap (λ u. and_then (lettered k u) f) b)
then-barred k o f (inr a) next = subst BarredOr (sym (ap (λ u. and_then (lettered k u) f) a.1)) (next a.0)

kept-barred : {X Y : Type 0} (o : Result X Lettered) (f : X → Y) → BarredOr o → BarredOr (and_then o (λ x. Ok (f x)))
kept-barred o f (inl b) = inl (b.0, ap (λ u. and_then u (λ x. Ok (f x))) b.1)
kept-barred o f (inr a) = inr (f a.0, ap (λ u. and_then u (λ x. Ok (f x))) a.1)

abbrev DecidedAlong : Answers → Direction → Type 0
DecidedAlong t Same = Decided t.g
DecidedAlong t Opposite = Decided t.n

along-barred : (t : Answers) (d : Direction) → DecidedAlong t d → BarredOr (along_by t d)
along-barred t Same h = then-barred G t.g (λ x. Ok (Trail x)) h (λ x. inr (Trail x, refl))
along-barred t Opposite h = then-barred N t.n (λ x. Ok (Opposition x)) h (λ x. inr (Opposition x, refl))

minima-barred : (t : Answers) (d : Direction) → Decided t.v → Decided t.l → DecidedAlong t d → BarredOr (minima_by t d)
minima-barred t d hv hl ha =
    then-barred V t.v _ hv (λ v. then-barred L t.l _ hl (λ l. kept-barred (along_by t d) (λ k. record { vertical = v; lateral = l; along = k }) (along-barred t d ha)))

abbrev Settled : Result Verdict ProbeFault → Type 0
Settled o = (o ≡ Err Limits) ⊎ (((k : Letter) × (o ≡ Err (Sheet k (Lookup Barred)))) ⊎ ((x : Verdict) × (o ≡ Ok x)))

judged : (limits : Bool) (o : Result Minima Lettered) (f : Minima → Verdict) → BarredOr o → Settled (cond limits (and_then (raised o) (λ k. Ok (f k))) (Err Limits))
judged false o f h = inl refl
judged true o f (inl b) = inr (inl (b.0, ap (λ u. and_then (raised u) (λ k. Ok (f k))) b.1))
judged true o f (inr a) = inr (inr (f a.0, ap (λ u. and_then (raised u) (λ k. Ok (f k))) a.1))

-- a probe takes from the sheets what they answer, and nothing else
minima-by-answers : {X C : Type 0} (m : Meaning X C) (s : Four X C) (e : Encounter X) (d : Direction) → minima_of m s e d ≡ minima_by (answers_of m s e) d
minima-by-answers m s e Same = refl
minima-by-answers m s e Opposite = refl

by-answers : {X C : Type 0} (m : Meaning X C) (s : Four X C) (e : Encounter X) (a b : Fix) (p : Passing) → probed m s e a b p ≡ probed_by (answers_of m s e) a b p
by-answers m s e a b p = ap (λ k. cond (in_limits a b p) (and_then (raised k) (λ x. Ok (verdict_of a b p x))) (Err Limits)) (minima-by-answers m s e p.direction)

module _ {X C : Type 0} (m : Meaning X C) (law : Lawful m) where
  module _ {R : Type 0} (r : Results R) (eq : Equal r) (ks : List (Call X C R)) (s : Source X C R) (h : StandsIssued m r ks s) where
    looked : (e : Encounter X) → LookUpInRun m r ks e s.counts s.lists (answer_of m r s e)
    looked e = look-up-in-run m law r eq ks s.counts s.lists e h (answer_of m r s e) refl

    fit : (e : Encounter X) → whole e ≡ true → InRange m (made m r ks).contents e → Fit m r s e
    fit e w i = record { long = w; in_range = subst (λ c. InRange m c e) (sym h.contents) i; faultless = subst (Faultless m r) (sym h.contents) (looked e).faultless }

    decided : (e : Encounter X) → whole e ≡ true → InRange m (made m r ks).contents e → Decided (answer_of m r s e)
    decided e w i = (looked e).settled w i

  module _ (calls : Runs X C) (s : Four X C) (h : AllStand m calls s) where
    answers : (e : Encounter X) → answers_of m s e ≡ answers_made m calls e
    answers e =
        ap₂ (λ x y. record { v = x; l = y; g = answer_of m figures s.g e; n = answer_of m periods s.n e }) (looked figures figures-equal calls.v s.v h.v e).answer (looked figures figures-equal calls.l s.l h.l e).answer
        ∙ ap₂ (λ x y. record { v = answer_made m figures calls.v e; l = answer_made m figures calls.l e; g = x; n = y }) (looked figures figures-equal calls.g s.g h.g e).answer (looked periods periods-equal calls.n s.n h.n e).answer

    module _ (e : Encounter X) where
      fit-along : (d : Direction) → whole e ≡ true → InRangeAlong m calls e d → FitAlong m s e d
      fit-along Same w i = fit figures figures-equal calls.g s.g h.g e w i
      fit-along Opposite w i = fit periods periods-equal calls.n s.n h.n e w i

      fit_all : (d : Direction) → InRangeOfAll m calls e d → FitAll m s e d
      fit_all d i = (fit figures figures-equal calls.v s.v h.v e i.long i.v, fit figures figures-equal calls.l s.l h.l e i.long i.l, fit-along d i.long i.along)

      decided-along : (d : Direction) → whole e ≡ true → InRangeAlong m calls e d → DecidedAlong (answers_of m s e) d
      decided-along Same w i = decided figures figures-equal calls.g s.g h.g e w i
      decided-along Opposite w i = decided periods periods-equal calls.n s.n h.n e w i

      pub probe-in-run : (a b : Fix) (p : Passing) (said : Result Verdict ProbeFault) → said ≡ probed m s e a b p → ProbeInRun m calls e a b p said
      probe-in-run a b p said q = record {
        answer = q ∙ by-answers m s e a b p ∙ ap (λ t. probed_by t a b p) (answers e);
        settled = λ i. subst Settled (sym (q ∙ by-answers m s e a b p)) (judged (in_limits a b p) (minima_by (answers_of m s e) p.direction) (verdict_of a b p)
            (minima-barred (answers_of m s e) p.direction (decided figures figures-equal calls.v s.v h.v e i.long i.v) (decided figures figures-equal calls.l s.l h.l e i.long i.l) (decided-along p.direction i.long i.along)));
        same_exchanged = λ i. sym (by-answers m s (exchanged e) b a p ∙ ap (λ t. probed_by t b a p) (answers (exchanged e))) ∙ same-exchanged m s e a b p (fit_all p.direction i) ∙ sym q;
      }
