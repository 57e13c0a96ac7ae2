-- Issue after its first question. Assumes nothing.
use Rattle.std.proofs.Common.{◌≡◌, ℕ, true, Err, Result, sym, ◌∙◌, subst, ap₂}
use Rattle.std.proofs.lemmas.Bool.{cond-true}
use Rattle.faults.specs.declared.SheetFault.{SheetFault}
use Rattle.faults.specs.declared.SheetFault.TheVariants.{Lists as WrongLists}
use Rattle.items.specs.declared.Counts.{Counts}
use Rattle.kinds.specs.Meaning.{Meaning, Lawful}
use Rattle.results.specs.Results.{Results, Equal}
use Rattle.tables.specs.Contents.{Encounter}
use Rattle.tables.specs.Acceptance.{Acceptable}
use Rattle.tables.specs.Storage.{Lists, contents_of, in_order}
use Rattle.tables.specs.Issues.{issue, answered, written}
use Rattle.tables.specs.Issued.{IssuedRightly}
use Rattle.tables.specs.Answers.{issue_answer, issue_writes}
use Rattle.tables.proofs.Testing.{in_order_lem}
use Rattle.tables.proofs.Issuing.{issued-rightly}
use Rattle.seeking.specs.Seeks.{Found}

module _ {V C R : Type 0} (m : Meaning V C) (r : Results R) (n : Counts) (l : Lists V C R) (lent : Encounter V) where
  accepted : in_order m r n l ≡ true → Acceptable m r (contents_of n l)
  accepted h = ((in_order_lem m r n l).0 h).1

  pub rightly : Lawful m → Equal r → in_order m r n l ≡ true → IssuedRightly m r (contents_of n l) lent
  rightly law equal h = issued-rightly m law r equal (contents_of n l) (accepted h) lent

  pub examined : (k : Counts) (s : Lists V C R) (t : Result ℕ SheetFault) (e : Encounter V) → k ≡ n → s ≡ l → in_order m r n l ≡ true
      → (Acceptable m r (contents_of k s) → Found m r (contents_of k s) lent (issue m r (contents_of k s) lent) t e) → (t ≡ issue_answer m r n l lent) × (e ≡ issue_writes m r n l lent)
  examined k s t e kn sl h found =
      let same : contents_of k s ≡ contents_of n l = ap₂ contents_of kn sl in
      let f = subst (λ c. Acceptable m r c → Found m r c lent (issue m r c lent) t e) same found (accepted h) in (
        f.answer ∙ sym (cond-true (in_order m r n l) (answered (issue m r (contents_of n l) lent)) (Err WrongLists) h),
        f.writes ∙ sym (cond-true (in_order m r n l) (written m r (contents_of n l) lent (issue m r (contents_of n l) lent)) lent h),
      )
