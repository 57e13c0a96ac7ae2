-- What is sought of an encounter. Assumes nothing.
use Rattle.std.specs.Prelude.{Bool, not, ◌||◌}
use Rattle.kinds.specs.Meaning.{Meaning}
use Rattle.results.specs.Results.{Results}
use Rattle.tables.specs.Contents.{Contents, Encounter}
use Rattle.tables.specs.Outcomes.{outcome, is_barred, is_gap, is_clash, symmetric}

module _ {V C R : Type 0} (m : Meaning V C) (r : Results R) (c : Contents V C R) where
  -- what is sought of an encounter
  abbrev pub open_in : Encounter V → Bool
  open_in e = not (is_barred r (outcome m r c e))

  abbrev pub gap_in : Encounter V → Bool
  gap_in e = is_gap r (outcome m r c e)

  abbrev pub clash_in : Encounter V → Bool
  clash_in e = is_clash r (outcome m r c e)

  abbrev pub asymmetry_in : Encounter V → Bool
  asymmetry_in e = not (symmetric m r c e)

  abbrev pub fault_in : Encounter V → Bool
  fault_in e = is_gap r (outcome m r c e) || (is_clash r (outcome m r c e) || not (symmetric m r c e))
