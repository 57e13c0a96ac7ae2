-- A probe with the flights exchanged. Assumes nothing.
use Rattle.std.specs.Prelude.{◌≡◌, true}
use Rattle.kinds.specs.Meaning.{Meaning}
use Rattle.results.specs.Results.{Results}
use Rattle.results.specs.Figures.{figures}
use Rattle.results.specs.Periods.{periods}
use Rattle.tables.specs.Contents.{Encounter, InRange, whole}
use Rattle.tables.specs.Faultless.{Faultless}
use Rattle.fixes.specs.declared.fix.Direction.{Direction}
use Rattle.fixes.specs.declared.fix.Direction.TheVariants.{Same, Opposite}
use Rattle.fixes.specs.declared.fix.Fix.{Fix}
use Rattle.fixes.specs.declared.fix.Passing.{Passing}
use Rattle.probe.specs.Probed.{Source, Four, held, probed}

abbrev pub exchanged : {X : Type 0} → Encounter X → Encounter X
exchanged e = record { a = e.b; b = e.a; pair = e.pair }

-- A sheet without fault, and an encounter that is in range for it.
pub record Fit {X C R : Type 0} (m : Meaning X C) (r : Results R) (s : Source X C R) (e : Encounter X) : Type 0 where
  pub long : whole e ≡ true
  pub in_range : InRange m (held m s) e
  pub faultless : Faultless m r (held m s)

module _ {X C : Type 0} (m : Meaning X C) (s : Four X C) (e : Encounter X) where
  abbrev pub FitAlong : Direction → Type 0
  FitAlong Same = Fit m figures s.g e
  FitAlong Opposite = Fit m periods s.n e

  -- the three sheets that are looked up
  abbrev pub FitAll : Direction → Type 0
  FitAll d = Fit m figures s.v e × Fit m figures s.l e × FitAlong d

  -- both fixes and the encounter exchanged get the same answer
  abbrev pub SameExchanged : Fix → Fix → Passing → Type 0
  SameExchanged a b p = FitAll p.direction → probed m s (exchanged e) b a p ≡ probed m s e a b p
