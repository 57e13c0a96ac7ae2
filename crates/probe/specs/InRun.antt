-- A probe by four sheets that runs of calls made. Assumes nothing.
use Rattle.std.specs.Prelude.{◌≡◌, true, ◌⊎◌, List, Ok, Err, Result}
use Rattle.kinds.specs.Meaning.{Meaning}
use Rattle.faults.specs.declared.LookupFault.TheVariants.{Barred}
use Rattle.faults.specs.declared.SheetFault.{SheetFault}
use Rattle.faults.specs.declared.SheetFault.TheVariants.{Lookup}
use Rattle.results.specs.Results.{Results}
use Rattle.results.specs.Figures.{figures}
use Rattle.results.specs.Periods.{periods}
use Rattle.results.specs.declared.figure.Figure.{Figure}
use Rattle.results.specs.declared.period.Period.{Period}
use Rattle.tables.specs.Calls.{Call, issued, made}
use Rattle.tables.specs.Contents.{Encounter, InRange, whole}
use Rattle.tables.specs.Lookups.{look_up, told}
use Rattle.runs.specs.Standing.{Stands}
use Rattle.fixes.specs.declared.fix.Direction.{Direction}
use Rattle.fixes.specs.declared.fix.Direction.TheVariants.{Same, Opposite}
use Rattle.fixes.specs.declared.fix.Fix.{Fix}
use Rattle.fixes.specs.declared.fix.Passing.{Passing}
use Rattle.fixes.specs.declared.verdict.Verdict.{Verdict}
use Rattle.probe.specs.declared.fault.Letter.{Letter}
use Rattle.probe.specs.declared.fault.ProbeFault.{ProbeFault}
use Rattle.probe.specs.declared.fault.ProbeFault.TheVariants.{Limits, Sheet}
use Rattle.probe.specs.Probed.{Four, Source, Answers, probed_by}
use Rattle.probe.specs.Exchanged.{exchanged}

-- the calls that made the four sheets
pub record Runs (X C : Type 0) : Type 0 where
  pub v : List (Call X C Figure)
  pub l : List (Call X C Figure)
  pub g : List (Call X C Figure)
  pub n : List (Call X C Period)

module _ {X C R : Type 0} (m : Meaning X C) (r : Results R) (calls : List (Call X C R)) where
  abbrev pub StandsIssued : Source X C R → Type 0
  StandsIssued s = Stands m r calls issued s.counts s.lists

  -- what the contents that the calls make answer to an encounter
  abbrev pub answer_made : Encounter X → Result R SheetFault
  answer_made e = told (look_up m r (made m r calls).contents e)

module _ {X C : Type 0} (m : Meaning X C) (calls : Runs X C) where
  -- each sheet is issued and stands for what its calls make
  pub record AllStand (s : Four X C) : Type 0 where
    pub v : StandsIssued m figures calls.v s.v
    pub l : StandsIssued m figures calls.l s.l
    pub g : StandsIssued m figures calls.g s.g
    pub n : StandsIssued m periods calls.n s.n

  abbrev pub answers_made : Encounter X → Answers
  answers_made e = record { v = answer_made m figures calls.v e; l = answer_made m figures calls.l e; g = answer_made m figures calls.g e; n = answer_made m periods calls.n e }

  module _ (e : Encounter X) where
    abbrev pub InRangeAlong : Direction → Type 0
    InRangeAlong Same = InRange m (made m figures calls.g).contents e
    InRangeAlong Opposite = InRange m (made m periods calls.n).contents e

    -- the encounter's lists are of right length, and it is in range for the three sheets that are looked up
    pub record InRangeOfAll (d : Direction) : Type 0 where
      pub long : whole e ≡ true
      pub v : InRange m (made m figures calls.v).contents e
      pub l : InRange m (made m figures calls.l).contents e
      pub along : InRangeAlong d

    -- The probe of the flights A and B answers what is said.
    pub record ProbeInRun (a b : Fix) (p : Passing) (said : Result Verdict ProbeFault) : Type 0 where
      -- the verdict by what the contents answer
      pub answer : said ≡ probed_by (answers_made e) a b p
      -- in range the only refusals are the limits, 23, and that a sheet bars the encounter, 20 with its letter
      pub settled : InRangeOfAll p.direction → (said ≡ Err Limits) ⊎ (((k : Letter) × (said ≡ Err (Sheet k (Lookup Barred)))) ⊎ ((x : Verdict) × (said ≡ Ok x)))
      -- and both fixes and the encounter exchanged get the same answer
      pub same_exchanged : InRangeOfAll p.direction → probed_by (answers_made (exchanged e)) b a p ≡ said
