-- What a draft call tells and leaves. Assumes nothing.
use Rattle.std.specs.Prelude.{◌≡◌, List, Result}
use Rattle.std.specs.Result.{result_err}
use Rattle.kinds.specs.Meaning.{Meaning}
use Rattle.faults.specs.declared.SheetFault.{SheetFault}
use Rattle.items.specs.declared.Counts.{Counts}
use Rattle.results.specs.Results.{Results}
use Rattle.tables.specs.Answers.{edit_answer}
use Rattle.tables.specs.Calls.{Edit, Call, draft}
use Rattle.tables.specs.Storage.{Lists}
use Rattle.runs.specs.Standing.{Stands, EditInRun}
use Rattle.edits.specs.Meant.{EditLeaves, told}

-- The edit k on a draft of the counts n in the lists l leaves the counts n' and the lists l'; the caller is told what is said.
pub record MadeRightly {V C R : Type 0} (m : Meaning V C) (r : Results R) (k : Edit V C R) (n : Counts) (l : Lists V C R) (n' : Counts) (l' : Lists V C R) (said : Result (Unit {0}) SheetFault) : Type 0 where
  -- the first refusal, or that the edit is made
  pub answer : said ≡ told (edit_answer m r n l k)
  pub left : EditLeaves m r k n l n' l'
  pub in_run : (calls : List (Call V C R)) → Stands m r calls draft n l → EditInRun m r calls k n' l' (result_err said)
