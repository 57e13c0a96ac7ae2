-- A call that is made in a run answers what is said of the contents that the calls before it make, and leaves what it should. Assumes nothing.
use Rattle.std.proofs.Common.{◌≡◌, ℕ, true, cond, List, [], ◌∷◌, ◌++◌, is_err, None, Ok, Err, Option, Result, sym, refl, ap, ◌∙◌, subst, inl, inr, ⊎_elim, arith}
use Rattle.kinds.specs.Meaning.{Meaning, Lawful}
use Rattle.faults.specs.declared.LookupFault.TheVariants.{Barred}
use Rattle.faults.specs.declared.SheetFault.{SheetFault}
use Rattle.faults.specs.declared.SheetFault.TheVariants.{Lookup}
use Rattle.results.specs.Results.{Results, Equal}
use Rattle.items.specs.declared.Counts.{Counts}
use Rattle.tables.specs.Contents.{Encounter, InRange}
use Rattle.tables.specs.Outcomes.{outcome, answer}
use Rattle.tables.specs.Acceptance.{Acceptable}
use Rattle.tables.specs.Issues.{issue, answered, refused}
use Rattle.tables.specs.Lookups.{Look, short_for, no_result, found, look_up, told}
use Rattle.tables.specs.Calls.{Edit, Call, edit, try_issue, look_up as looking_up, withdraw, Status, draft, issued, first_no, asked, made_by, made}
use Rattle.tables.specs.Storage.{Lists, RightLengths, contents_of, Kept, opened_on, kept_unless, kept_by, in_order}
use Rattle.tables.specs.Answers.{AnsweredFor, edit_answer, issue_answer, issue_writes, look_up_answer}
use Rattle.tables.specs.LookedUp.{Tells}
use Rattle.tables.proofs.Answering.{answered-for}
use Rattle.tables.proofs.Editing.{edited-rightly}
use Rattle.tables.proofs.Running.{every-run}
use Rattle.tables.proofs.Storing.{holds_after}
use Rattle.tables.proofs.Testing.{in_order_lem}
use Rattle.runs.specs.Standing.{by_answer, Stands, EditInRun, IssueInRun, LookUpInRun, WithdrawInRun}

-- what the caller is told comes from one finding only
told-barred : {R : Type 0} (k : Look R) → told k ≡ Err (Lookup Barred) → k ≡ no_result Barred
told-barred short_for e = let z : ◌≡◌ {A = ℕ} 0 1 = cc in absurd (omega arith)
told-barred (no_result f) e = let h : f ≡ Barred = cc in ap no_result h
told-barred (found x) e = let z : ◌≡◌ {A = ℕ} 0 1 = cc in absurd (omega arith)

told-found : {R : Type 0} (k : Look R) (x : R) → told k ≡ Ok x → k ≡ found x
told-found short_for x e = let z : ◌≡◌ {A = ℕ} 0 1 = cc in absurd (omega arith)
told-found (no_result f) x e = let z : ◌≡◌ {A = ℕ} 0 1 = cc in absurd (omega arith)
told-found (found y) x e = let h : y ≡ x = cc in ap found h

pub by-refusal : (o : Result ℕ SheetFault) → by_answer o ≡ cond (is_err o) draft issued
by-refusal (Ok n) = refl
by-refusal (Err f) = refl

module _ {V C R : Type 0} (m : Meaning V C) (law : Lawful m) (r : Results R) (eq : Equal r) where
  pub opened-stands : (l : Lists V C R) → RightLengths l → Stands m r [] draft (opened_on l).counts l
  opened-stands l s = record { status = refl; contents = refl; bounded = record { quantities = omega arith; rows = omega arith; columns = omega arith; nevers = omega arith }; lengths = s }

  module _ (calls : List (Call V C R)) (n : Counts) (l : Lists V C R) where
    -- the first question is answered yes
    pub in-order-standing : (s : Status) → Stands m r calls s n l → in_order m r n l ≡ true
    in-order-standing s h = (in_order_lem m r n l).1 (h.lengths, subst (Acceptable m r) (sym h.contents) (every-run m r law eq calls).acceptable)

    answers : (s : Status) → Stands m r calls s n l → AnsweredFor m r n l (made m r calls).contents
    answers s h = answered-for m r n l (made m r calls).contents (in-order-standing s h) h.contents

    -- what the call k leaves of counts and lists stands for one call more
    stands_after : (k : Call V C R) (s : Status) → Stands m r calls s n l → (t : Kept V C R) → t ≡ kept_by m r k s n l → Stands m r (calls ++ (k ∷ [])) t.status t.counts t.lists
    stands_after k s h t e =
        let a = holds_after m r k s n l h.bounded h.lengths in
        let on : made m r (calls ++ (k ∷ [])) ≡ made_by m r k s (contents_of n l) = (every-run m r law eq calls).onward k
        ∙ ap (λ u. made_by m r k u (made m r calls).contents) h.status
        ∙ ap (made_by m r k s) (sym h.contents) in
        subst (λ u. Stands m r (calls ++ (k ∷ [])) u.status u.counts u.lists) (sym e) (record {
          status = ap (λ u. u.status) on ∙ sym a.0;
          contents = a.1.0 ∙ sym (ap (λ u. u.contents) on);
          bounded = a.1.1.0;
          lengths = a.1.1.1;
        })

    pub edit-in-run : (k : Edit V C R) → Stands m r calls draft n l → (o : Option SheetFault) → o ≡ edit_answer m r n l k
        → (n' : Counts) (l' : Lists V C R) → record { status = draft; counts = n'; lists = l' } ≡ kept_unless m r o k n l → EditInRun m r calls k n' l' o
    edit-in-run k h o e n' l' p =
        let c = (made m r calls).contents in
        let said : o ≡ first_no (asked m r k c) = e ∙ (answers draft h).edits k in
        record {
          answer = said;
          rightly = edited-rightly m r c k;
          onward = stands_after (edit k) draft h (record { status = draft; counts = n'; lists = l' }) (p ∙ ap (λ u. kept_unless m r u k n l) (said ∙ ap (λ d. first_no (asked m r k d)) (sym h.contents)));
        }

    pub issue-in-run : (e : Encounter V) → Stands m r calls draft n l → (s : Status) (n' : Counts) (said : Result ℕ SheetFault) (e' : Encounter V)
        → said ≡ issue_answer m r n l e → s ≡ by_answer said → n' ≡ n → e' ≡ issue_writes m r n l e → IssueInRun m r calls e s n' l e' said
    issue-in-run e h s n' said e' a b p w =
        let c = (made m r calls).contents in
        let t = said-by e h said a in
        record {
          answer = a ∙ (answers draft h).issues e;
          shown = w ∙ (answers draft h).writes e;
          rightly = (every-run m r law eq calls).issuing e;
          onward = stands_after (try_issue e) draft h (record { status = s; counts = n'; lists = l }) (ap (λ u. record { status = u; counts = n'; lists = l }) (b ∙ t) ∙ ap (λ u. record { status = cond (refused (issue m r (contents_of n l) e)) draft issued; counts = u; lists = l }) p);
        }
      where
        said-by : (e : Encounter V) → Stands m r calls draft n l → (said : Result ℕ SheetFault) → said ≡ issue_answer m r n l e → by_answer said ≡ cond (refused (issue m r (contents_of n l) e)) draft issued
        said-by e h said a = ap by_answer (a ∙ (answers draft h).issues e ∙ ap (λ d. answered (issue m r d e)) (sym h.contents)) ∙ by-refusal (answered (issue m r (contents_of n l) e))

    pub look-up-in-run : (e : Encounter V) → Stands m r calls issued n l → (said : Result R SheetFault) → said ≡ look_up_answer m r n l e → LookUpInRun m r calls e n l said
    look-up-in-run e h said a =
        let c = (made m r calls).contents in
        let run = every-run m r law eq calls in
        let t : said ≡ told (look_up m r c e) = a ∙ (answers issued h).look_ups e in
        let right = run.looking e in
        let sound = run.faultless h.status in
        let met : (x : R) → said ≡ Ok x → InRange m c e × (outcome m r c e ≡ answer x) = λ x q. subst (Tells m r c e) (told-found (look_up m r c e) x (sym t ∙ q)) right.tells in
        record {
          answer = t;
          rightly = right;
          within = run.within h.status;
          faultless = sound;
          settled = λ w i. ⊎_elim (λ b. inl (t ∙ ap told b)) (λ x. inr (x.0, t ∙ ap told x.1)) (right.settled w i sound);
          agreed = λ x q. sound.agreed e (met x q).0 x (met x q).1;
          same_result = λ x q. sound.same_result e (met x q).0 x (met x q).1;
          still_barred = λ q. ap told (right.still_barred sound (told-barred (look_up m r c e) (sym t ∙ q)));
          still_found = λ x q. let y = right.still_found sound x (told-found (look_up m r c e) x (sym t ∙ q)) in (y.0, (ap told y.1.0, y.1.1));
          onward = stands_after (looking_up e) issued h (record { status = issued; counts = n; lists = l }) refl;
        }

    pub withdraw-in-run : Stands m r calls issued n l → (n' : Counts) → n' ≡ n → WithdrawInRun m r calls draft n' l None
    withdraw-in-run h n' p = record { answer = refl; onward = stands_after withdraw issued h (record { status = draft; counts = n'; lists = l }) (ap (λ u. record { status = draft; counts = u; lists = l }) p) }
