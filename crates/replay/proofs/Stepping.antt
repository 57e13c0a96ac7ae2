-- A call of a script brings it to its next point. Assumes nothing.
use Rattle.std.proofs.Common.{◌≡◌, cond, List, [], ◌∷◌, ◌++◌, sym, refl, ap, ◌∙◌, subst, ap₂}
use Rattle.std.proofs.lemmas.Bool.{cond-true}
use Rattle.kinds.specs.Meaning.{Meaning, Lawful}
use Rattle.results.specs.Results.{Results, Equal}
use Rattle.items.specs.declared.Counts.{Counts}
use Rattle.tables.specs.Answers.{edit_answer, issue_answer, issue_writes, look_up_answer}
use Rattle.tables.specs.Calls.{Call, edit, try_issue, look_up, withdraw, Status, draft, issued, first_no, asked, made}
use Rattle.tables.specs.Contents.{Encounter}
use Rattle.tables.specs.Issues.{issue, answered, refused}
use Rattle.tables.specs.Storage.{Lists, Kept, contents_of, opened_on, in_order, kept_unless, kept_by, kept_after}
use Rattle.runs.specs.Standing.{by_answer, Stands}
use Rattle.runs.proofs.Standing.{by-refusal, in-order-standing, edit-in-run, issue-in-run, look-up-in-run, withdraw-in-run}
use Rattle.edits.specs.Meant.{told}
use Rattle.sheet.proofs.InRuns.{kept-unless}
use Rattle.replay.specs.Scripts.{done_by, issued_by, found_by, call_of, Played, answer_to, shown_after, called, onward}
use Rattle.replay.specs.Steps.{Stepped, step_shown}
use Rattle.replay.specs.Replays.{At}
use Rattle.replay.specs.declared.script.Answer.{Answer}
use Rattle.replay.specs.declared.script.Answer.TheVariants.{NotAllowed, Done}
use Rattle.replay.specs.declared.script.Call.{Call as Given}

module _ {V C R : Type 0} (m : Meaning V C) (r : Results R) (first : Lists V C R) where
  kept-after-push : (t : Kept V C R) (ks : List (Call V C R)) (k : Call V C R) → kept_after m r t (ks ++ (k ∷ [])) ≡ kept_by m r k (kept_after m r t ks).status (kept_after m r t ks).counts (kept_after m r t ks).lists
  kept-after-push t [] k = refl
  kept-after-push t (x ∷ ks) k = kept-after-push (kept_by m r x t.status t.counts t.lists) ks k

  -- what one call more leaves
  kept_more : (ks : List (Call V C R)) (k : Call V C R) (s : Status) (n : Counts) (l : Lists V C R) → record { status = s; counts = n; lists = l } ≡ kept_after m r (opened_on first) ks
      → (t : Kept V C R) → t ≡ kept_by m r k s n l → t ≡ kept_after m r (opened_on first) (ks ++ (k ∷ []))
  kept_more ks k s n l h t e = e ∙ ap (λ u. kept_by m r k u.status u.counts u.lists) h ∙ sym (kept-after-push (opened_on first) ks k)

module _ {V C R : Type 0} (m : Meaning V C) (law : Lawful m) (r : Results R) (eq : Equal r) (first : Lists V C R) (w : Played V C R) (s' : Status) (n' : Counts) (l' : Lists V C R) (e' : Encounter V) (a : Answer R) where
  -- the script has come to the point x by a call that was answered a
  abbrev pub Comes : Played V C R → Type 0
  Comes x = At m r first x s' n' l' e' × (x.answers ≡ w.answers ++ (a ∷ []))

  comes : (calls : List (Call V C R)) (e : Encounter V) (b : Answer R) (s : Status) (n : Counts) (l : Lists V C R) → Stands m r calls s n l → record { status = s; counts = n; lists = l } ≡ kept_after m r (opened_on first) calls
      → a ≡ b → s' ≡ s → n' ≡ n → l' ≡ l → e' ≡ e → Comes (record { calls = calls; shown = e; answers = w.answers ++ (b ∷ []) })
  comes calls e b s n l h z p q t u v = (
    record {
      stands = subst (λ x. Stands m r calls x n' l') (sym q) (subst (λ x. Stands m r calls s x l') (sym t) (subst (λ x. Stands m r calls s n x) (sym u) h));
      kept = ap (λ x. record { status = x; counts = n'; lists = l' }) q ∙ ap₂ (λ x y. record { status = s; counts = x; lists = y }) t u ∙ z;
      shown = v;
    },
    ap (λ x. w.answers ++ (x ∷ [])) (sym p),
  )

  module _ (n : Counts) (l : Lists V C R) where
    abbrev Before : Status → Type 0
    Before s = record { status = s; counts = n; lists = l } ≡ kept_after m r (opened_on first) w.calls

    denied : (s : Status) → Stands m r w.calls s n l → Before s → a ≡ NotAllowed → s' ≡ s → n' ≡ n → l' ≡ l → e' ≡ w.shown
        → Comes (record { calls = w.calls; shown = w.shown; answers = w.answers ++ (NotAllowed ∷ []) })
    denied s h z = comes w.calls w.shown NotAllowed s n l h z

    called_at : (k : Call V C R) (s : Status) → Stands m r w.calls s n l → Before s → Stepped m r n l k s s' n' l' a → e' ≡ step_shown m r n l k s w.shown
        → Comes (called m r k s (made m r w.calls).contents w)
    called_at (edit k) draft h z t v =
        let c = (made m r w.calls).contents in
        let o = edit_answer m r n l k in
        let left : record { status = draft; counts = n'; lists = l' } ≡ kept_unless m r o k n l = ap₂ (λ x y. record { status = draft; counts = x; lists = y }) t.counts t.lists ∙ kept-unless m law r eq n l k o in
        let i = edit-in-run m law r eq w.calls n l k h o refl n' l' left in
        let asks : o ≡ first_no (asked m r k (contents_of n l)) = cond-true (in_order m r n l) _ _ (in-order-standing m law r eq w.calls n l draft h) in
        comes (w.calls ++ (edit k ∷ [])) w.shown (answer_to m r (edit k) c) draft n' l' i.onward (kept_more m r first w.calls (edit k) draft n l z _ (left ∙ ap (λ x. kept_unless m r x k n l) asks))
        (t.answer ∙ ap (λ x. done_by (told x)) i.answer) t.status refl refl v
    called_at (edit k) issued h z t v = denied issued h z t.answer t.status t.counts t.lists v
    called_at (try_issue e) draft h z t v =
        let c = (made m r w.calls).contents in
        let said = issue_answer m r n l e in
        let i = issue-in-run m law r eq w.calls n l e h (by_answer said) n said (issue_writes m r n l e) refl refl refl refl in
        let state : by_answer said ≡ cond (refused (issue m r (contents_of n l) e)) draft issued = ap by_answer (cond-true (in_order m r n l) _ _ (in-order-standing m law r eq w.calls n l draft h)) ∙ by-refusal (answered (issue m r (contents_of n l) e)) in
        comes (w.calls ++ (try_issue e ∷ [])) (shown_after m r (try_issue e) c w.shown) (answer_to m r (try_issue e) c) (by_answer said) n l i.onward (kept_more m r first w.calls (try_issue e) draft n l z _ (ap (λ x. record { status = x; counts = n; lists = l }) state))
        (t.answer ∙ ap issued_by i.answer) t.status t.counts t.lists (v ∙ i.shown)
    called_at (try_issue e) issued h z t v = denied issued h z t.answer t.status t.counts t.lists v
    called_at (look_up e) draft h z t v = denied draft h z t.answer t.status t.counts t.lists v
    called_at (look_up e) issued h z t v =
        let c = (made m r w.calls).contents in
        let i = look-up-in-run m law r eq w.calls n l e h (look_up_answer m r n l e) refl in
        comes (w.calls ++ (look_up e ∷ [])) w.shown (answer_to m r (look_up e) c) issued n l i.onward (kept_more m r first w.calls (look_up e) issued n l z _ refl) (t.answer ∙ ap found_by i.answer) t.status t.counts t.lists v
    called_at withdraw draft h z t v = denied draft h z t.answer t.status t.counts t.lists v
    called_at withdraw issued h z t v =
        let yes-first = in-order-standing m law r eq w.calls n l issued h in
        let i = withdraw-in-run m law r eq w.calls n l h n refl in
        comes (w.calls ++ (withdraw ∷ [])) w.shown Done draft n l i.onward (kept_more m r first w.calls withdraw issued n l z _ refl)
        (t.answer ∙ cond-true (in_order m r n l) _ _ yes-first) (t.status ∙ cond-true (in_order m r n l) _ _ yes-first) t.counts t.lists v

    pub step-at : (k : Given V C R) (s : Status) (e : Encounter V) → At m r first w s n l e → Stepped m r n l (call_of k e) s s' n' l' a → e' ≡ step_shown m r n l (call_of k e) s e → Comes (onward m r w k)
    step-at k s e h t v =
        let c = (made m r w.calls).contents in
        let here = called_at (call_of k w.shown) s h.stands h.kept (subst (λ x. Stepped m r n l (call_of k x) s s' n' l' a) h.shown t) (v ∙ ap (λ x. step_shown m r n l (call_of k x) s x) h.shown) in
        subst (λ x. Comes (called m r (call_of k w.shown) x c w)) (sym h.stands.status) here
