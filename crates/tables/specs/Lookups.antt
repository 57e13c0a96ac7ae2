-- What look-up answers. Assumes nothing.
use Rattle.std.specs.Prelude.{cond, Some, None, Ok, Err, Option, Result}
use Rattle.std.specs.Option.{unwrap_or}
use Rattle.kinds.specs.Meaning.{Meaning}
use Rattle.faults.specs.declared.LookupFault.{LookupFault}
use Rattle.faults.specs.declared.LookupFault.TheVariants.{OutOfRange, Barred, Gap, Clash}
use Rattle.faults.specs.declared.SheetFault.{SheetFault}
use Rattle.faults.specs.declared.SheetFault.TheVariants.{EncounterLists, Lookup}
use Rattle.results.specs.Results.{Results}
use Rattle.tables.specs.Words.{first}
use Rattle.tables.specs.Contents.{Contents, Encounter, Place, places, value_of, within, whole}
use Rattle.tables.specs.Outcomes.{Outcome, barred, gap, clash, answer, outcome}

-- What look-up finds: encounter lists of wrong length, no result and why, or a result.
pub data Look (R : Type 0) : Type 0 where
  short_for : Look R
  no_result : LookupFault → Look R
  found : R → Look R

-- What the caller is told of it.
abbrev pub told : {R : Type 0} → Look R → Result R SheetFault
told = elim [ short_for ↦ Err EncounterLists | no_result f ↦ Err (Lookup f) | found x ↦ Ok x ]

-- a clash tells no columns here
abbrev pub by_outcome : {R : Type 0} → Outcome R → Look R
by_outcome barred = no_result Barred
by_outcome gap = no_result Gap
by_outcome (clash i j) = no_result Clash
by_outcome (answer x) = found x

module _ {V C R : Type 0} (m : Meaning V C) (r : Results R) (c : Contents V C R) where
  abbrev pub outside_at : Encounter V → Place V → Option (Look R)
  outside_at e p = cond (within m p.quantity (value_of e p)) None (Some (no_result (OutOfRange p.side p.number)))

  -- the first value that is not in range, the lowest quantity first, A before B; else the outcome
  abbrev pub look_up : Encounter V → Look R
  look_up e = cond (whole e) (unwrap_or (first (outside_at e) (places c)) (by_outcome (outcome m r c e))) short_for
