-- What is promised of every run of calls. Assumes nothing.
use Rattle.std.specs.Prelude.{◌≡◌, ◌≤◌, true, List, [], ◌∷◌, ◌++◌}
use Rattle.kinds.specs.Meaning.{Meaning}
use Rattle.results.specs.Results.{Results}
use Rattle.items.specs.declared.Counts.{Counts}
use Rattle.tables.specs.Contents.{Contents, Encounter}
use Rattle.tables.specs.Acceptance.{Acceptable}
use Rattle.tables.specs.Starts.{count}
use Rattle.tables.specs.Issues.{limit}
use Rattle.tables.specs.Calls.{Call, made, after, draft, issued, Edit, edited}
use Rattle.tables.specs.Storage.{Lists, Bounded, RightLengths, contents_of, counts_after, lists_after, opened_on, kept_after, in_order}
use Rattle.tables.specs.Answers.{AnsweredFor}
use Rattle.tables.specs.Edits.{EditedRightly}
use Rattle.tables.specs.Faultless.{Faultless}
use Rattle.tables.specs.Issued.{IssuedRightly}
use Rattle.tables.specs.LookedUp.{LookedUpRightly}

-- Some calls from open on make a draft with these contents.
abbrev pub Makeable : {V C R : Type 0} → Meaning V C → Results R → Contents V C R → Type 0
Makeable {V} {C} {R} m r c = (calls : List (Call V C R)) × (made m r calls ≡ record { status = draft; contents = c })

-- An accepted edit leaves counts and lists that hold the edited contents.
pub record StoredRightly {V C R : Type 0} (k : Edit V C R) (n : Counts) (l : Lists V C R) : Type 0 where
  pub contents : contents_of (counts_after k n) (lists_after k n l) ≡ edited k (contents_of n l)
  pub bounded : Bounded (counts_after k n)
  pub lengths : RightLengths (lists_after k n l)

-- After any calls the counts and lists hold what the calls make, whatever the lists held at open.
pub record HeldRightly {V C R : Type 0} (m : Meaning V C) (r : Results R) (l : Lists V C R) (calls : List (Call V C R)) : Type 0 where
  pub status : (kept_after m r (opened_on l) calls).status ≡ (made m r calls).status
  pub contents : contents_of (kept_after m r (opened_on l) calls).counts (kept_after m r (opened_on l) calls).lists ≡ (made m r calls).contents
  pub bounded : Bounded (kept_after m r (opened_on l) calls).counts
  pub lengths : RightLengths (kept_after m r (opened_on l) calls).lists

-- The law over runs: whatever calls are made from open on, in any order, repeated or refused, the sheet is one that the draft calls accept, issue and look-up answer rightly of it, and while it is issued it is without fault.
pub record EveryRun {V C R : Type 0} (m : Meaning V C) (r : Results R) (calls : List (Call V C R)) : Type 0 where
  pub acceptable : Acceptable m r (made m r calls).contents
  -- counts and lists that nothing else alters hold it
  pub held : (l : Lists V C R) → RightLengths l → HeldRightly m r l calls
  -- and the first question of the next call is answered yes
  pub first_question : (l : Lists V C R) → RightLengths l → in_order m r (kept_after m r (opened_on l) calls).counts (kept_after m r (opened_on l) calls).lists ≡ true
  -- so that the calls answer from counts and lists what is said of the contents
  pub answers : (l : Lists V C R) → RightLengths l → AnsweredFor m r (kept_after m r (opened_on l) calls).counts (kept_after m r (opened_on l) calls).lists (made m r calls).contents
  -- one more call does to the sheet what it is said to do
  pub onward : (k : Call V C R) → made m r (calls ++ (k ∷ [])) ≡ after m r k (made m r calls)
  -- an edit changes its item and nothing else
  pub editing : (k : Edit V C R) → EditedRightly m r k (made m r calls).contents
  pub issuing : (lent : Encounter V) → IssuedRightly m r (made m r calls).contents lent
  pub looking : (e : Encounter V) → LookedUpRightly m r (made m r calls).contents e
  pub within : (made m r calls).status ≡ issued → count m (made m r calls).contents ≤ limit
  pub faultless : (made m r calls).status ≡ issued → Faultless m r (made m r calls).contents
