-- What issue answers. Assumes nothing.
use Rattle.std.specs.Prelude.{ℕ, Bool, true, cond, ◌&&◌, List, [], ◌∷◌, is_err, Some, None, Ok, Err, Option, Result, nat_le}
use Rattle.std.specs.Option.{unwrap_or}
use Rattle.faults.specs.declared.SheetFault.{SheetFault}
use Rattle.faults.specs.declared.SheetFault.TheVariants.{EncounterLists, TooManyEncounters, AllBarred, Gap, Clash, Asymmetry}
use Rattle.kinds.specs.Meaning.{Meaning}
use Rattle.tables.specs.Words.{first}
use Rattle.results.specs.Results.{Results}
use Rattle.tables.specs.Contents.{Contents, Encounter, places, whole}
use Rattle.tables.specs.Outcomes.{Outcome, barred, gap, clash, answer, outcome, is_barred, symmetric}
use Rattle.tables.specs.Starts.{count, from_starts, reset}

-- What issue finds: the first of its questions that is answered no, with the encounter that is shown, or the count of an accepted sheet.
pub data Issue (V : Type 0) : Type 0 where
  short_lists : Issue V
  too_many : Issue V
  all_barred : Issue V
  shown_gap : Encounter V → Issue V
  -- the lowest column met, and the next one unequal to it
  shown_clash : Encounter V → ℕ → ℕ → Issue V
  shown_asymmetry : Encounter V → Issue V
  accepted : ℕ → Issue V

-- What the caller is told of it; the encounter that is shown is written into the encounter lists.
abbrev pub answered : {V : Type 0} → Issue V → Result ℕ SheetFault
answered = elim [
  | short_lists ↦ Err EncounterLists
  | too_many ↦ Err TooManyEncounters
  | all_barred ↦ Err AllBarred
  | shown_gap e ↦ Err Gap
  | shown_clash e i j ↦ Err (Clash i j)
  | shown_asymmetry e ↦ Err Asymmetry
  | accepted n ↦ Ok n
]

abbrev pub refused : {V : Type 0} → Issue V → Bool
refused i = is_err (answered i)

-- the greatest count that issue goes through
abbrev pub limit : ℕ
limit = 1048576

module _ {V R : Type 0} where
  abbrev pub if_gap : Encounter V → Outcome R → Option (Issue V)
  if_gap e = elim [ barred ↦ None | gap ↦ Some (shown_gap e) | clash i j ↦ None | answer x ↦ None ]

  abbrev pub if_clash : Encounter V → Outcome R → Option (Issue V)
  if_clash e = elim [ barred ↦ None | gap ↦ None | clash i j ↦ Some (shown_clash e i j) | answer x ↦ None ]

module _ {V C R : Type 0} (m : Meaning V C) (r : Results R) (c : Contents V C R) where
  abbrev pub gap_at : Encounter V → Option (Issue V)
  gap_at e = if_gap e (outcome m r c e)

  abbrev pub clash_at : Encounter V → Option (Issue V)
  clash_at e = if_clash e (outcome m r c e)

  abbrev pub asymmetry_at : Encounter V → Option (Issue V)
  asymmetry_at e = cond (symmetric m r c e) None (Some (shown_asymmetry e))

  abbrev pub every_barred : List (Encounter V) → Bool
  every_barred [] = true
  every_barred (e ∷ es) = is_barred r (outcome m r c e) && every_barred es

  -- the earliest with the fault, gaps first, then clashes, then asymmetries
  abbrev pub examined : List (Encounter V) → Issue V
  examined es = cond (every_barred es) all_barred
      (unwrap_or (first gap_at es) (unwrap_or (first clash_at es) (unwrap_or (first asymmetry_at es) (accepted (count m c)))))

  abbrev pub issue : Encounter V → Issue V
  issue e = let found = examined (from_starts m c e) in cond (whole e) (cond (nat_le (count m c) limit) found too_many) short_lists

  -- the encounter lists after the answer, of which e are those before it
  abbrev pub written : Encounter V → Issue V → Encounter V
  written e short_lists = e
  written e too_many = e
  written e all_barred = reset m c (places c) e
  written e (shown_gap s) = s
  written e (shown_clash s i j) = s
  written e (shown_asymmetry s) = s
  written e (accepted n) = reset m c (places c) e
