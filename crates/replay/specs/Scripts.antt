-- What is answered to the calls of a script, by the contents that the calls before them make. Assumes nothing.
use Rattle.std.specs.Prelude.{ℕ, Bool, true, false, cond, List, [], ◌∷◌, ◌++◌, Ok, Err, Result}
use Rattle.kinds.specs.Meaning.{Meaning}
use Rattle.faults.specs.declared.SheetFault.{SheetFault}
use Rattle.results.specs.Results.{Results}
use Rattle.tables.specs.Contents.{Contents, Encounter}
use Rattle.tables.specs.Issues.{issue, answered, written}
use Rattle.tables.specs.Lookups.{look_up, told as told_of}
use Rattle.tables.specs.Calls.{Call, edit, try_issue, look_up as looking_up, withdraw, Status, draft, issued, first_no, asked, made}
use Rattle.lists.specs.Held.{encounter_of}
use Rattle.edits.specs.Meant.{edit_of, told}
use Rattle.replay.specs.declared.script.Answer.{Answer}
use Rattle.replay.specs.declared.script.Answer.TheVariants.{Done, Issued, Found, Refused, NotAllowed}
use Rattle.replay.specs.declared.script.Call.{Call as Given}
use Rattle.replay.specs.declared.script.Call.TheVariants.{Edit, Issue, LookUp, Withdraw}

module _ {R : Type 0} where
  -- what the script is told of what a call tells
  abbrev pub done_by : Result (Unit {0}) SheetFault → Answer R
  done_by (Ok x) = Done
  done_by (Err f) = Refused f

  abbrev pub issued_by : Result ℕ SheetFault → Answer R
  issued_by (Ok n) = Issued n
  issued_by (Err f) = Refused f

  abbrev pub found_by : Result R SheetFault → Answer R
  found_by (Ok x) = Found x
  found_by (Err f) = Refused f

module _ {V C R : Type 0} where
  -- the call that a script makes when the encounter lists hold e
  abbrev pub call_of : Given V C R → Encounter V → Call V C R
  call_of (Edit k) e = edit (edit_of k)
  call_of Issue e = try_issue e
  call_of (LookUp x) e = looking_up (encounter_of x)
  call_of Withdraw e = withdraw

  -- a draft allows edits and issue, an issued sheet look-up and withdraw
  abbrev pub allows : Status → Call V C R → Bool
  allows draft (edit k) = true
  allows draft (try_issue e) = true
  allows draft (looking_up e) = false
  allows draft withdraw = false
  allows issued (edit k) = false
  allows issued (try_issue e) = false
  allows issued (looking_up e) = true
  allows issued withdraw = true

-- A script up to some point: the calls that were made, what the encounter lists hold, and the answers.
pub record Played (V C R : Type 0) : Type 0 where
  pub calls : List (Call V C R)
  pub shown : Encounter V
  pub answers : List (Answer R)

-- before its first call
abbrev pub start : {V C R : Type 0} → Encounter V → Played V C R
start e = record { calls = []; shown = e; answers = [] }

module _ {V C R : Type 0} (m : Meaning V C) (r : Results R) where
  -- the answer to a call on a sheet with the contents c
  abbrev pub answer_to : Call V C R → Contents V C R → Answer R
  answer_to (edit k) c = done_by (told (first_no (asked m r k c)))
  answer_to (try_issue e) c = issued_by (answered (issue m r c e))
  answer_to (looking_up e) c = found_by (told_of (look_up m r c e))
  answer_to withdraw c = Done

  -- what the encounter lists hold after it, of which e are those before it: only issue writes them
  abbrev pub shown_after : Call V C R → Contents V C R → Encounter V → Encounter V
  shown_after (edit k) c e = e
  shown_after (try_issue lent) c e = written m r c lent (issue m r c lent)
  shown_after (looking_up x) c e = e
  shown_after withdraw c e = e

  -- a call that the state allows is made; to any other nothing happens
  abbrev pub called : Call V C R → Status → Contents V C R → Played V C R → Played V C R
  called k s c w = cond (allows s k)
      (record { calls = w.calls ++ (k ∷ []); shown = shown_after k c w.shown; answers = w.answers ++ (answer_to k c ∷ []) })
      (record { calls = w.calls; shown = w.shown; answers = w.answers ++ (NotAllowed ∷ []) })

  -- one call more, on the sheet that the calls before it make
  abbrev pub onward : Played V C R → Given V C R → Played V C R
  onward w k = called (call_of k w.shown) (made m r w.calls).status (made m r w.calls).contents w

  abbrev pub played : Played V C R → List (Given V C R) → Played V C R
  played w [] = w
  played w (k ∷ ks) = played (onward w k) ks
