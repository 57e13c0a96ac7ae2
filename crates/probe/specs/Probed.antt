-- What a probe answers. Assumes nothing.
use Rattle.std.specs.Prelude.{Bool, cond, ◌&&◌, ℤ, Ok, Err, Result}
use Rattle.kinds.specs.Meaning.{Meaning}
use Rattle.faults.specs.declared.SheetFault.{SheetFault}
use Rattle.items.specs.declared.Counts.{Counts}
use Rattle.results.specs.Results.{Results}
use Rattle.results.specs.Figures.{figures}
use Rattle.results.specs.Periods.{periods}
use Rattle.results.specs.declared.figure.Figure.{Figure}
use Rattle.results.specs.declared.period.Period.{Period}
use Rattle.tables.specs.Answers.{look_up_answer}
use Rattle.tables.specs.Contents.{Contents, Encounter}
use Rattle.tables.specs.Margins.{vertical_margin, lateral_margin, same_margin, opposite_margin}
use Rattle.tables.specs.Storage.{Lists, contents_of}
use Rattle.lists.specs.Held.{lists_of}
use Rattle.fixes.specs.Limits.{fix_in_limits, passing_in_limits}
use Rattle.fixes.specs.declared.fix.Direction.{Direction}
use Rattle.fixes.specs.declared.fix.Direction.TheVariants.{Same, Opposite}
use Rattle.fixes.specs.declared.fix.Fix.{Fix}
use Rattle.fixes.specs.declared.fix.Passing.{Passing}
use Rattle.fixes.specs.declared.verdict.Verdict.{Verdict}
use Rattle.probe.specs.declared.fault.Letter.TheVariants.{V, L, G, N}
use Rattle.probe.specs.declared.fault.Lettered.{Lettered}
use Rattle.probe.specs.declared.fault.ProbeFault.{ProbeFault}
use Rattle.probe.specs.declared.fault.ProbeFault.TheVariants.{Limits}
use Rattle.probe.specs.declared.minima.Along.{Along}
use Rattle.probe.specs.declared.minima.Along.TheVariants.{Trail, Opposition}
use Rattle.probe.specs.declared.minima.Minima.{Minima}
use Rattle.probe.specs.declared.minima.Sheet.{Sheet}
use Rattle.probe.specs.declared.minima.Sheets.{Sheets}
use Rattle.probe.specs.Lettering.{lettered, raised}

-- a sheet: how much it uses of its lists, and what these hold
pub record Source (X C R : Type 0) : Type 0 where
  pub counts : Counts
  pub lists : Lists X C R

pub record Four (X C : Type 0) : Type 0 where
  pub v : Source X C Figure
  pub l : Source X C Figure
  pub g : Source X C Figure
  pub n : Source X C Period

module _ {K X C : Type 0} where
  abbrev pub source : {R : Type 0} → Sheet K R X C → Source X C R
  source s = record { counts = s.issued.now.counts; lists = lists_of s.lists.now }

  abbrev pub four : Sheets K X C → Four X C
  four s = record { v = source s.v; l = source s.l; g = source s.g; n = source s.n }

-- the second from what the first gives, where that refuses nothing
abbrev pub and_then : {X Y F : Type 0} → Result X F → (X → Result Y F) → Result Y F
and_then (Ok x) f = f x
and_then (Err e) f = Err e

-- what the four sheets answer to an encounter
pub record Answers : Type 0 where
  pub v : Result Figure SheetFault
  pub l : Result Figure SheetFault
  pub g : Result Figure SheetFault
  pub n : Result Period SheetFault

-- the one along the way, by what the sheets answer
abbrev pub along_by : Answers → Direction → Result Along Lettered
along_by t Same = and_then (lettered G t.g) (λ x. Ok (Trail x))
along_by t Opposite = and_then (lettered N t.n) (λ x. Ok (Opposition x))

-- the three minima, by what the sheets answer
abbrev pub minima_by : Answers → Direction → Result Minima Lettered
minima_by t d =
    and_then (lettered V t.v) (λ v.
    and_then (lettered L t.l) (λ l.
    and_then (along_by t d) (λ k. Ok (record { vertical = v; lateral = l; along = k }))))

module _ {X C : Type 0} (m : Meaning X C) where
  abbrev pub held : {R : Type 0} → Source X C R → Contents X C R
  held s = contents_of s.counts s.lists

  abbrev pub answer_of : {R : Type 0} → Results R → Source X C R → Encounter X → Result R SheetFault
  answer_of r s e = look_up_answer m r s.counts s.lists e

  abbrev pub answers_of : Four X C → Encounter X → Answers
  answers_of s e = record { v = answer_of figures s.v e; l = answer_of figures s.l e; g = answer_of figures s.g e; n = answer_of periods s.n e }

  -- G for the same direction, N for opposite ones; the other is asked nothing
  abbrev pub along_of : Four X C → Encounter X → Direction → Result Along Lettered
  along_of s e Same = and_then (lettered G (answer_of figures s.g e)) (λ x. Ok (Trail x))
  along_of s e Opposite = and_then (lettered N (answer_of periods s.n e)) (λ x. Ok (Opposition x))

  -- V, then L, then the one along the way
  abbrev pub minima_of : Four X C → Encounter X → Direction → Result Minima Lettered
  minima_of s e d =
      and_then (lettered V (answer_of figures s.v e)) (λ v.
      and_then (lettered L (answer_of figures s.l e)) (λ l.
      and_then (along_of s e d) (λ k. Ok (record { vertical = v; lateral = l; along = k }))))

abbrev pub longitudinal_margin : Fix → Fix → Passing → Along → ℤ
longitudinal_margin a b p (Trail x) = same_margin a.time b.time x.value
longitudinal_margin a b p (Opposition x) = opposite_margin p.time x p.t

abbrev pub verdict_of : Fix → Fix → Passing → Minima → Verdict
verdict_of a b p k = record {
  vertical = vertical_margin a.level b.level k.vertical.value;
  lateral = lateral_margin a.lateral b.lateral k.lateral.value;
  longitudinal = longitudinal_margin a b p k.along;
}

abbrev pub in_limits : Fix → Fix → Passing → Bool
in_limits a b p = fix_in_limits a && (fix_in_limits b && passing_in_limits p)

-- the limits first, then the look-ups, then the margins
abbrev pub probed : {X C : Type 0} → Meaning X C → Four X C → Encounter X → Fix → Fix → Passing → Result Verdict ProbeFault
probed m s e a b p = cond (in_limits a b p) (and_then (raised (minima_of m s e p.direction)) (λ k. Ok (verdict_of a b p k))) (Err Limits)

-- the same, by what the sheets answer
abbrev pub probed_by : Answers → Fix → Fix → Passing → Result Verdict ProbeFault
probed_by t a b p = cond (in_limits a b p) (and_then (raised (minima_by t p.direction)) (λ k. Ok (verdict_of a b p k))) (Err Limits)
