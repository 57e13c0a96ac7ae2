-- What one call of a script does to a sheet in counts and lists, whatever these hold. Assumes nothing.
use Rattle.std.specs.Prelude.{◌≡◌, cond}
use Rattle.kinds.specs.Meaning.{Meaning}
use Rattle.faults.specs.declared.SheetFault.TheVariants.{Lists as WrongLists}
use Rattle.results.specs.Results.{Results}
use Rattle.items.specs.declared.Counts.{Counts}
use Rattle.tables.specs.Answers.{edit_answer, issue_answer, issue_writes, look_up_answer}
use Rattle.tables.specs.Calls.{Call, edit, try_issue, look_up, withdraw, Status, draft, issued}
use Rattle.tables.specs.Contents.{Encounter}
use Rattle.tables.specs.Storage.{Lists, counts_after, lists_after, in_order}
use Rattle.runs.specs.Standing.{by_answer}
use Rattle.edits.specs.Meant.{told, unless}
use Rattle.replay.specs.Scripts.{done_by, issued_by, found_by}
use Rattle.replay.specs.declared.script.Answer.{Answer}
use Rattle.replay.specs.declared.script.Answer.TheVariants.{Done, Refused, NotAllowed}

module _ {V C R : Type 0} (m : Meaning V C) (r : Results R) (n : Counts) (l : Lists V C R) where
  abbrev pub step_answer : Call V C R → Status → Answer R
  step_answer (edit k) draft = done_by (told (edit_answer m r n l k))
  step_answer (edit k) issued = NotAllowed
  step_answer (try_issue e) draft = issued_by (issue_answer m r n l e)
  step_answer (try_issue e) issued = NotAllowed
  step_answer (look_up e) draft = NotAllowed
  step_answer (look_up e) issued = found_by (look_up_answer m r n l e)
  step_answer withdraw draft = NotAllowed
  step_answer withdraw issued = cond (in_order m r n l) Done (Refused WrongLists)

  abbrev pub step_status : Call V C R → Status → Status
  step_status (edit k) s = s
  step_status (try_issue e) draft = by_answer (issue_answer m r n l e)
  step_status (try_issue e) issued = issued
  step_status (look_up e) s = s
  step_status withdraw draft = draft
  step_status withdraw issued = cond (in_order m r n l) draft issued

  abbrev pub step_counts : Call V C R → Status → Counts
  step_counts (edit k) draft = unless (edit_answer m r n l k) (counts_after k n) n
  step_counts (edit k) issued = n
  step_counts (try_issue e) s = n
  step_counts (look_up e) s = n
  step_counts withdraw s = n

  abbrev pub step_lists : Call V C R → Status → Lists V C R
  step_lists (edit k) draft = unless (edit_answer m r n l k) (lists_after k n l) l
  step_lists (edit k) issued = l
  step_lists (try_issue e) s = l
  step_lists (look_up e) s = l
  step_lists withdraw s = l

  -- the encounter lists afterwards, of which e are those before
  abbrev pub step_shown : Call V C R → Status → Encounter V → Encounter V
  step_shown (edit k) s e = e
  step_shown (try_issue lent) draft e = issue_writes m r n l lent
  step_shown (try_issue lent) issued e = e
  step_shown (look_up x) s e = e
  step_shown withdraw s e = e

  -- The call k on a sheet in the state s gives the answer a and leaves the state s', the counts n' and the lists l'.
  pub record Stepped (k : Call V C R) (s s' : Status) (n' : Counts) (l' : Lists V C R) (a : Answer R) : Type 0 where
    pub answer : a ≡ step_answer k s
    pub status : s' ≡ step_status k s
    pub counts : n' ≡ step_counts k s
    pub lists : l' ≡ step_lists k s
