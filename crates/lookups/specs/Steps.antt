-- The questions of look-up one by one. Assumes nothing.
use Rattle.std.specs.Prelude.{ℕ, suc, cond, List, [], ◌∷◌, Ok, Err, Result}
use Rattle.kinds.specs.Meaning.{Meaning}
use Rattle.faults.specs.declared.LookupFault.{LookupFault}
use Rattle.faults.specs.declared.LookupFault.TheVariants.{OutOfRange, Barred, Gap, Clash}
use Rattle.faults.specs.declared.SheetFault.{SheetFault}
use Rattle.faults.specs.declared.SheetFault.TheVariants.{Lookup}
use Rattle.items.specs.declared.Side.{Side}
use Rattle.items.specs.declared.Quantity.{Quantity}
use Rattle.tables.specs.Contents.{Encounter, sides, value_at, within}
use Rattle.tables.specs.Outcomes.{Outcome, barred, gap, clash, answer}

-- the second, where the first refuses nothing
abbrev pub before : {X Y F : Type 0} → Result X F → Result Y F → Result Y F
before (Ok _) y = y
before (Err f) y = Err f

module _ {V C : Type 0} (m : Meaning V C) (e : Encounter V) where
  -- is the value of quantity i in one of the lists in range
  abbrev pub asked_at : Quantity V → Side → ℕ → Result (Unit {0}) LookupFault
  asked_at q s i = cond (within m q (value_at e s i)) (Ok tt) (Err (OutOfRange s i))

  abbrev pub asked_in : Quantity V → ℕ → List Side → Result (Unit {0}) LookupFault
  asked_in q i [] = Ok tt
  asked_in q i (s ∷ ss) = before (asked_at q s i) (asked_in q i ss)

  -- A before B
  abbrev pub asked_of : Quantity V → ℕ → Result (Unit {0}) LookupFault
  asked_of q i = asked_in q i (sides q.scope)

  -- the lowest quantity first
  abbrev pub asked_from : ℕ → List (Quantity V) → Result (Unit {0}) LookupFault
  asked_from i [] = Ok tt
  asked_from i (q ∷ qs) = before (asked_of q i) (asked_from (suc i) qs)

abbrev pub outcome_told : {R : Type 0} → Outcome R → Result R LookupFault
outcome_told barred = Err Barred
outcome_told gap = Err Gap
outcome_told (clash i j) = Err Clash
outcome_told (answer x) = Ok x

-- as a refusal of the sheet
abbrev pub raised : {R : Type 0} → Result R LookupFault → Result R SheetFault
raised (Ok x) = Ok x
raised (Err f) = Err (Lookup f)
