-- What a sheet that is kept in counts and lists stands for, and what each call does that is made in a run of calls. Assumes nothing.
use Rattle.std.specs.Prelude.{◌≡◌, ℕ, ◌≤◌, true, ◌⊎◌, List, [], ◌∷◌, ◌++◌, None, Ok, Err, Option, Result}
use Rattle.std.specs.List.{AllByRecursion}
use Rattle.kinds.specs.Meaning.{Meaning}
use Rattle.faults.specs.declared.LookupFault.TheVariants.{Barred}
use Rattle.faults.specs.declared.SheetFault.{SheetFault}
use Rattle.faults.specs.declared.SheetFault.TheVariants.{Lookup}
use Rattle.results.specs.Results.{Results}
use Rattle.items.specs.declared.Counts.{Counts}
use Rattle.tables.specs.Contents.{Encounter, exchange, whole, InRange}
use Rattle.tables.specs.Starts.{count}
use Rattle.tables.specs.Issues.{issue, answered, written, limit}
use Rattle.tables.specs.Lookups.{look_up, told}
use Rattle.tables.specs.Calls.{Edit, Call, edit, try_issue, look_up as looking_up, withdraw, Status, draft, issued, first_no, asked, made}
use Rattle.tables.specs.Storage.{Lists, Bounded, RightLengths, contents_of}
use Rattle.tables.specs.Edits.{EditedRightly}
use Rattle.tables.specs.Faultless.{Faultless, Meets}
use Rattle.tables.specs.Issued.{IssuedRightly}
use Rattle.tables.specs.LookedUp.{LookedUpRightly}

-- an accepted sheet is issued, a refused one stays a draft
abbrev pub by_answer : Result ℕ SheetFault → Status
by_answer (Ok n) = issued
by_answer (Err f) = draft

-- The sheet kept as the status s, the counts n and the lists l stands for what the calls make, from open on.
pub record Stands {V C R : Type 0} (m : Meaning V C) (r : Results R) (calls : List (Call V C R)) (s : Status) (n : Counts) (l : Lists V C R) : Type 0 where
  pub status : (made m r calls).status ≡ s
  pub contents : contents_of n l ≡ (made m r calls).contents
  pub bounded : Bounded n
  pub lengths : RightLengths l

-- What a call does that is made after other calls, from open on, to a sheet that nothing but these calls alters. Each is told
-- what the definitions say of the contents that the calls make, and leaves a sheet that stands for one call more.
module _ {V C R : Type 0} (m : Meaning V C) (r : Results R) (calls : List (Call V C R)) where
  -- The edit k leaves the counts n and the lists l; the caller is told a refusal or none.
  pub record EditInRun (k : Edit V C R) (n : Counts) (l : Lists V C R) (refusal : Option SheetFault) : Type 0 where
    -- the first question answered no
    pub answer : refusal ≡ first_no (asked m r k (made m r calls).contents)
    pub rightly : EditedRightly m r k (made m r calls).contents
    pub onward : Stands m r (calls ++ (edit k ∷ [])) draft n l

  -- Issue with the encounter lists e leaves the status s and the encounter lists e'; the caller is told a count or a refusal.
  pub record IssueInRun (e : Encounter V) (s : Status) (n : Counts) (l : Lists V C R) (e' : Encounter V) (said : Result ℕ SheetFault) : Type 0 where
    pub answer : said ≡ answered (issue m r (made m r calls).contents e)
    pub shown : e' ≡ written m r (made m r calls).contents e (issue m r (made m r calls).contents e)
    pub rightly : IssuedRightly m r (made m r calls).contents e
    pub onward : Stands m r (calls ++ (try_issue e ∷ [])) s n l

  -- Look-up of the encounter e in an issued sheet: the caller is told a result or a refusal.
  pub record LookUpInRun (e : Encounter V) (n : Counts) (l : Lists V C R) (said : Result R SheetFault) : Type 0 where
    pub answer : said ≡ told (look_up m r (made m r calls).contents e)
    pub rightly : LookedUpRightly m r (made m r calls).contents e
    pub within : count m (made m r calls).contents ≤ limit
    pub faultless : Faultless m r (made m r calls).contents
    -- an encounter in range is barred or has a result
    pub settled : whole e ≡ true → InRange m (made m r calls).contents e → (said ≡ Err (Lookup Barred)) ⊎ ((x : R) × (said ≡ Ok x))
    -- each column that it meets bears the result that is told, and any two of them the same
    pub agreed : (x : R) → said ≡ Ok x → AllByRecursion (λ k. Meets m r (made m r calls).contents e k → r.same x k.result ≡ true) (made m r calls).contents.columns
    pub same_result : (x : R) → said ≡ Ok x
        → AllByRecursion (λ k. Meets m r (made m r calls).contents e k → AllByRecursion (λ l. Meets m r (made m r calls).contents e l → r.same k.result l.result ≡ true) (made m r calls).contents.columns) (made m r calls).contents.columns
    -- with the flights exchanged barred stays barred, and the result stays the same
    pub still_barred : said ≡ Err (Lookup Barred) → told (look_up m r (made m r calls).contents (exchange (made m r calls).contents e)) ≡ Err (Lookup Barred)
    pub still_found : (x : R) → said ≡ Ok x
        → (y : R) × ((told (look_up m r (made m r calls).contents (exchange (made m r calls).contents e)) ≡ Ok y) × (r.same x y ≡ true))
    pub onward : Stands m r (calls ++ (looking_up e ∷ [])) issued n l

  -- Withdraw leaves the status s and the counts n; it is never refused.
  pub record WithdrawInRun (s : Status) (n : Counts) (l : Lists V C R) (refusal : Option SheetFault) : Type 0 where
    pub answer : refusal ≡ None
    pub onward : Stands m r (calls ++ (withdraw ∷ [])) s n l
