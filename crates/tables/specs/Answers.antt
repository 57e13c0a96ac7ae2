-- What the calls answer from counts and lists, whatever these hold: the first question comes before all others. Assumes nothing.
use Rattle.std.specs.Prelude.{◌≡◌, ℕ, cond, ◌∷◌, Err, Option, Result}
use Rattle.kinds.specs.Meaning.{Meaning}
use Rattle.faults.specs.declared.SheetFault.{SheetFault}
use Rattle.faults.specs.declared.SheetFault.TheVariants.{Lists as ListsFault}
use Rattle.results.specs.Results.{Results}
use Rattle.items.specs.declared.Counts.{Counts}
use Rattle.tables.specs.Contents.{Contents, Encounter}
use Rattle.tables.specs.Issues.{issue, answered, written}
use Rattle.tables.specs.Lookups.{look_up, told}
use Rattle.tables.specs.Calls.{Edit, first_no, asked}
use Rattle.tables.specs.Storage.{Lists, contents_of, in_order}

module _ {V C R : Type 0} (m : Meaning V C) (r : Results R) (n : Counts) (l : Lists V C R) where
  abbrev pub edit_answer : Edit V C R → Option SheetFault
  edit_answer k = first_no ((in_order m r n l, ListsFault) ∷ asked m r k (contents_of n l))

  abbrev pub issue_answer : Encounter V → Result ℕ SheetFault
  issue_answer e = let found = answered (issue m r (contents_of n l) e) in cond (in_order m r n l) found (Err ListsFault)

  -- the encounter lists after issue
  abbrev pub issue_writes : Encounter V → Encounter V
  issue_writes e = let after = written m r (contents_of n l) e (issue m r (contents_of n l) e) in cond (in_order m r n l) after e

  abbrev pub look_up_answer : Encounter V → Result R SheetFault
  look_up_answer e = let found = told (look_up m r (contents_of n l) e) in cond (in_order m r n l) found (Err ListsFault)

-- With the counts n and the lists l the calls answer what is said of the contents c.
pub record AnsweredFor {V C R : Type 0} (m : Meaning V C) (r : Results R) (n : Counts) (l : Lists V C R) (c : Contents V C R) : Type 0 where
  pub edits : (k : Edit V C R) → edit_answer m r n l k ≡ first_no (asked m r k c)
  pub issues : (e : Encounter V) → issue_answer m r n l e ≡ answered (issue m r c e)
  pub writes : (e : Encounter V) → issue_writes m r n l e ≡ written m r c e (issue m r c e)
  pub look_ups : (e : Encounter V) → look_up_answer m r n l e ≡ told (look_up m r c e)
