-- What a call answers and leaves, as a call of a run. Assumes nothing.
use Rattle.std.proofs.Common.{◌≡◌, ℕ, List, Some, None, Ok, Err, Option, Result, sym, refl, ap, ◌∙◌, ap₂}
use Rattle.std.proofs.lemmas.Bool.{true≢false}
use Rattle.std.specs.Result.{result_err}
use Rattle.kinds.specs.Meaning.{Meaning, Lawful}
use Rattle.faults.specs.declared.SheetFault.{SheetFault}
use Rattle.results.specs.Results.{Results, Equal}
use Rattle.items.specs.declared.Counts.{Counts}
use Rattle.tables.specs.Contents.{Encounter}
use Rattle.tables.specs.Calls.{Edit, Call, draft, issued}
use Rattle.tables.specs.Storage.{Lists, in_order, counts_after, lists_after, kept_unless}
use Rattle.tables.specs.Answers.{edit_answer, issue_answer, issue_writes}
use Rattle.runs.specs.Standing.{Stands, IssueInRun, WithdrawInRun}
use Rattle.runs.proofs.Standing.{in-order-standing, edit-in-run, issue-in-run, withdraw-in-run}
use Rattle.edits.specs.Meant.{EditLeaves, told, unless}
use Rattle.sheet.specs.declared.states.Draft.{Draft}
use Rattle.sheet.specs.declared.states.Issued.{Issued}
use Rattle.sheet.specs.Making.{MadeRightly}
use Rattle.sheet.specs.Issuing as issuing
use Rattle.sheet.specs.Withdrawn as withdrawing

told_part : (o : Option SheetFault) → result_err (told o) ≡ o
told_part None = refl
told_part (Some f) = refl

module _ {V C R : Type 0} (m : Meaning V C) (law : Lawful m) (r : Results R) (eq : Equal r) (n : Counts) (l : Lists V C R) where
  pub kept-unless : (k : Edit V C R) (o : Option SheetFault) → record { status = draft; counts = unless o (counts_after k n) n; lists = unless o (lists_after k n l) l } ≡ kept_unless m r o k n l
  kept-unless k None = refl
  kept-unless k (Some f) = refl

  pub made-rightly : (k : Edit V C R) (said : Result (Unit {0}) SheetFault) (n' : Counts) (l' : Lists V C R) → said ≡ told (edit_answer m r n l k) → EditLeaves m r k n l n' l' → MadeRightly m r k n l n' l' said
  made-rightly k said n' l' a left =
      let o = edit_answer m r n l k in
      let t : result_err said ≡ o = ap result_err a ∙ told_part o in
      record {
        answer = a;
        left = left;
        in_run = λ calls h. edit-in-run m law r eq calls n l k h (result_err said) t n' l'
            (ap₂ (λ x y. record { status = draft; counts = x; lists = y }) left.counts left.lists ∙ kept-unless k o ∙ ap (λ u. kept_unless m r u k n l) (sym t));
      }

  pub issue-made : (e : Encounter V) (before : Draft) → before.counts ≡ n → (said : Result (Issued × ℕ) (Draft × SheetFault)) (e' : Encounter V)
      → issuing.IssuedBy (issue_answer m r n l e) before said → e' ≡ issue_writes m r n l e
      → (calls : List (Call V C R)) → Stands m r calls draft n l → IssueInRun m r calls e (issuing.status_by said) (issuing.counts_by said) l e' (issuing.said_by said)
  issue-made e before b (Ok sheet) e' a w calls h = issue-in-run m law r eq calls n l e h issued sheet.0.counts (Ok sheet.1) e' (sym a.0) refl (a.1 ∙ b) w
  issue-made e before b (Err back) e' a w calls h = issue-in-run m law r eq calls n l e h draft back.0.counts (Err back.1) e' (sym a.0) refl (a.1 ∙ b) w

  pub withdraw-made : (before : Issued) → before.counts ≡ n → (said : Result Draft (Issued × SheetFault)) → withdrawing.Withdrawn (in_order m r n l) before said
      → (calls : List (Call V C R)) → Stands m r calls issued n l → WithdrawInRun m r calls (withdrawing.status_by said) (withdrawing.counts_by said) l (withdrawing.refusal_by said)
  withdraw-made before b (Ok free) a calls h = withdraw-in-run m law r eq calls n l h free.counts (a.1 ∙ b)
  withdraw-made before b (Err back) a calls h = absurd (true≢false (sym (in-order-standing m law r eq calls n l issued h) ∙ a.0))
