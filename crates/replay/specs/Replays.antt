-- What is promised of a script that is replayed. Assumes nothing.
use Rattle.std.specs.Prelude.{◌≡◌, ℕ, ◌<◌, ◌≤◌, true, false, List, ◌++◌, length, take, drop, Ok, Err, Result}
use Rattle.kinds.specs.Meaning.{Meaning}
use Rattle.results.specs.Results.{Results}
use Rattle.items.specs.declared.Counts.{Counts}
use Rattle.tables.specs.Calls.{Status}
use Rattle.tables.specs.Contents.{Encounter}
use Rattle.tables.specs.Promises.{EveryRun}
use Rattle.tables.specs.Storage.{Lists, opened_on, kept_after, right_lengths}
use Rattle.runs.specs.Standing.{Stands}
use Rattle.replay.specs.Scripts.{Played, start, played}
use Rattle.replay.specs.States.{status_of, counts_of}
use Rattle.replay.specs.declared.script.Answer.{Answer}
use Rattle.replay.specs.declared.script.Call.{Call as Given}
use Rattle.replay.specs.declared.script.ReplayFault.{ReplayFault}
use Rattle.replay.specs.declared.script.ReplayFault.TheVariants.{Lists as WrongLists, Answers as FewPlaces}
use Rattle.replay.specs.declared.state.Sheet.{Sheet}

-- On the lists first the script has come to the point w: the sheet stands for the calls that were made, counts and lists are what these leave,
-- and the encounter lists hold what they should.
pub record At {V C R : Type 0} (m : Meaning V C) (r : Results R) (first : Lists V C R) (w : Played V C R) (s : Status) (n : Counts) (l : Lists V C R) (e : Encounter V) : Type 0 where
  pub stands : Stands m r w.calls s n l
  pub kept : record { status = s; counts = n; lists = l } ≡ kept_after m r (opened_on first) w.calls
  pub shown : e ≡ w.shown

module _ {V C R : Type 0} (m : Meaning V C) (r : Results R) (script : List (Given V C R)) where
  -- where the script has come after its first n calls
  abbrev pub after : Encounter V → ℕ → Played V C R
  after e n = played m r (start e) (take n script)

  -- From the lists first, the encounter lists e and the places for answers the script leaves the sheet, the lists l, the encounter lists e' and the answers.
  pub record ReplayedTo (first : Lists V C R) (e : Encounter V) (places : List (Answer R)) (sheet : Sheet) (l : Lists V C R) (e' : Encounter V) (answers : List (Answer R)) : Type 0 where
    -- the sheet stands for the calls that the state allowed, and the encounter lists hold what these wrote
    pub end : At m r first (played m r (start e) script) (status_of sheet) (counts_of sheet) l e'
    -- one answer for each call, from the first place on; the other places are as they were
    pub each : length (played m r (start e) script).answers ≡ length script
    pub answered : answers ≡ (played m r (start e) script).answers ++ drop (length script) places
    -- the law over runs, at every point of the script
    pub right : (n : ℕ) → EveryRun m r (after e n).calls

  -- Lists of wrong length and too few places for answers are refused, with nothing done.
  abbrev pub Replayed : Lists V C R → Encounter V → List (Answer R) → Result Sheet ReplayFault → Lists V C R → Encounter V → List (Answer R) → Type 0
  Replayed l e places (Ok sheet) l' e' answers = (right_lengths l ≡ true) × (length script ≤ length places) × ReplayedTo l e places sheet l' e' answers
  Replayed l e places (Err WrongLists) l' e' answers = (right_lengths l ≡ false) × (l' ≡ l) × (e' ≡ e) × (answers ≡ places)
  Replayed l e places (Err FewPlaces) l' e' answers = (right_lengths l ≡ true) × (length places < length script) × (l' ≡ l) × (e' ≡ e) × (answers ≡ places)
