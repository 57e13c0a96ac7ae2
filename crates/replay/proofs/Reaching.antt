-- Where a script has come after its first calls, and how one more call brings it on. Assumes nothing.
use Rattle.std.proofs.Common.{◌≡◌, ℕ, ◌+◌, ◌<◌, Bool, true, false, ◌&&◌, List, [], ◌∷◌, ◌++◌, length, get_or, take, drop, set, sym, refl, ap, ◌∙◌, subst, ap₂, append_assoc, arith}
use Rattle.std.proofs.lemmas.List.{take_more, take_all, drop_more, length_push, set_at}
use Rattle.kinds.specs.Meaning.{Meaning, Lawful}
use Rattle.results.specs.Results.{Results, Equal}
use Rattle.tables.specs.Calls.{draft}
use Rattle.tables.specs.Contents.{Encounter}
use Rattle.tables.specs.Storage.{Lists, opened_on, right_lengths, in_order}
use Rattle.tables.proofs.Testing.{in_order_lem}
use Rattle.tables.proofs.Running.{every-run}
use Rattle.runs.specs.Standing.{Stands}
use Rattle.runs.proofs.Standing.{opened-stands}
use Rattle.replay.specs.Scripts.{call_of, Played, start, onward, played}
use Rattle.replay.specs.States.{status_of, counts_of}
use Rattle.replay.specs.Steps.{Stepped, step_shown}
use Rattle.replay.specs.Replays.{At, after, ReplayedTo}
use Rattle.replay.specs.declared.script.Answer.{Answer}
use Rattle.replay.specs.declared.script.Call.{Call as Given}
use Rattle.replay.specs.declared.state.Sheet.{Sheet}
use Rattle.replay.proofs.Stepping.{Comes, step-at}

and-true : (b : Bool) → (b && true) ≡ b
and-true true = refl
and-true false = refl

set_next : {X : Type 0} (ws xs : List X) (i : ℕ) (x : X) → length ws ≡ i → i < length xs → set (ws ++ drop i xs) i x ≡ (ws ++ (x ∷ [])) ++ drop (i + 1) xs
set_next ws xs i x e h = ap (λ ys. set (ws ++ ys) i x) (drop_more xs i x h) ∙ set_at ws (get_or xs i x) (drop (i + 1) xs) x i e ∙ sym (append_assoc ws (x ∷ []) (drop (i + 1) xs))

module _ {V C R : Type 0} (m : Meaning V C) (r : Results R) where
  played-push : (w : Played V C R) (ks : List (Given V C R)) (k : Given V C R) → played m r w (ks ++ (k ∷ [])) ≡ onward m r (played m r w ks) k
  played-push w [] k = refl
  played-push w (x ∷ ks) k = played-push (onward m r w x) ks k

  -- of a draft just opened the first question is whether the lists are of right length
  pub opened-in-order : (l : Lists V C R) → in_order m r (opened_on l).counts l ≡ right_lengths l
  opened-in-order l = and-true (right_lengths l)

  module _ (script : List (Given V C R)) (first : Lists V C R) (e : Encounter V) (places : List (Answer R)) where
    -- the script has made its first i calls, and their answers stand in the first places
    pub record Reached (i : ℕ) (sheet : Sheet) (l : Lists V C R) (e' : Encounter V) (answers : List (Answer R)) : Type 0 where
      pub here : At m r first (after m r script e i) (status_of sheet) (counts_of sheet) l e'
      pub many : length (after m r script e i).answers ≡ i
      pub written : answers ≡ (after m r script e i).answers ++ drop i places

    module _ (law : Lawful m) (eq : Equal r) where
      pub reached-none : (sheet : Sheet) → status_of sheet ≡ draft → counts_of sheet ≡ (opened_on first).counts → right_lengths first ≡ true → Reached 0 sheet first e places
      reached-none sheet s n h =
          let opened = opened-stands m law r eq first ((in_order_lem m r (opened_on first).counts first).0 (opened-in-order first ∙ h)).0 in
          record {
            here = record {
              stands = subst (λ x. Stands m r [] x (counts_of sheet) first) (sym s) (subst (λ x. Stands m r [] draft x first) (sym n) opened);
              kept = ap₂ (λ x y. record { status = x; counts = y; lists = first }) s n;
              shown = refl;
            };
            many = refl;
            written = refl;
          }

      pub reached-more : (i : ℕ) (sheet : Sheet) (l : Lists V C R) (e' : Encounter V) (answers : List (Answer R)) → Reached i sheet l e' answers → i < length script → i < length places
          → (k : Given V C R) → k ≡ get_or script i k → (sheet' : Sheet) (l' : Lists V C R) (e'' : Encounter V) (a : Answer R)
          → Stepped m r (counts_of sheet) l (call_of k e') (status_of sheet) (status_of sheet') (counts_of sheet') l' a
          → e'' ≡ step_shown m r (counts_of sheet) l (call_of k e') (status_of sheet) e' → Reached (i + 1) sheet' l' e'' (set answers i a)
      reached-more i sheet l e' answers h b p k g sheet' l' e'' a t v =
          let w = after m r script e i in
          let on : after m r script e (i + 1) ≡ onward m r w k = ap (played m r (start e)) (take_more script i k b ∙ ap (λ x. take i script ++ (x ∷ [])) (sym g)) ∙ played-push (start e) (take i script) k in
          let x = subst (Comes m law r eq first w (status_of sheet') (counts_of sheet') l' e'' a) (sym on) (step-at m law r eq first w (status_of sheet') (counts_of sheet') l' e'' a (counts_of sheet) l k (status_of sheet) e' h.here t v) in
          record {
            here = x.0;
            many = ap length x.1 ∙ length_push w.answers a ∙ ap (λ j. j + 1) h.many;
            written = ap (λ ys. set ys i a) h.written ∙ set_next w.answers places i a h.many p ∙ ap (λ ys. ys ++ drop (i + 1) places) (sym x.1);
          }

      pub reached-all : (i : ℕ) (sheet : Sheet) (l : Lists V C R) (e' : Encounter V) (answers : List (Answer R)) → Reached i sheet l e' answers → i ≡ length script → ReplayedTo m r script first e places sheet l e' answers
      reached-all i sheet l e' answers h p =
          let t : take i script ≡ script = take_all i script (omega arith) in
          let w : after m r script e i ≡ played m r (start e) script = ap (played m r (start e)) t in
          record {
            end = subst (λ x. At m r first x (status_of sheet) (counts_of sheet) l e') w h.here;
            each = sym (ap (λ x. length x.answers) w) ∙ h.many ∙ p;
            answered = h.written ∙ ap₂ (λ x j. x.answers ++ drop j places) w p;
            right = λ n. every-run m r law eq (after m r script e n).calls;
          }
