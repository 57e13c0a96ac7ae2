-- Every run of calls makes a sheet that the draft calls accept, and an issued one is without fault. Assumes nothing.
use Rattle.std.proofs.Common.{◌≡◌, ℕ, zero, suc, ◌-◌, ◌≤◌, Bool, true, false, cond, ltb, List, [], ◌∷◌, ◌++◌, map, length, take, set, Some, None, Option, sym, refl, ◌∙◌, subst, arith, length-append, length-take}
use Rattle.std.specs.List.{slice_get, AllByRecursion}
use Rattle.std.proofs.ByRecursion.{All-push, All-map, All-weaker, All-take}
use Rattle.std.proofs.lemmas.List.{length-map}
use Rattle.std.proofs.lemmas.Bool.{cond_both, ltb-true, false≢true, true≢false}
use Rattle.faults.specs.declared.SheetFault.{SheetFault}
use Rattle.kinds.specs.Meaning.{Meaning, Lawful}
use Rattle.items.specs.declared.Quantity.{Quantity}
use Rattle.items.specs.declared.Row.{Row}
use Rattle.items.specs.declared.Entry.{Entry}
use Rattle.items.specs.declared.Entry.TheVariants.{Any, Cell}
use Rattle.tables.specs.Words.{UpTo, changed}
use Rattle.results.specs.Results.{Results, Equal}
use Rattle.tables.specs.Contents.{Contents, Column, Encounter}
use Rattle.tables.specs.Acceptance.{Acceptable, mode_lawful, cell_lawful, row_lawful, EntriesLawful}
use Rattle.tables.specs.Starts.{count}
use Rattle.tables.specs.Issues.{Issue, short_lists, too_many, all_barred, shown_gap, shown_clash, shown_asymmetry, accepted, refused, limit, issue}
use Rattle.tables.specs.Calls.{Edit, name_quantity, add_row, add_column, add_never, set_cell, set_default, clear_default, strike_column, strike_never, Call, edit, try_issue, look_up, withdraw, Status, draft, issued, Sheet, first_no, any_of, with_entries, edited, empty, opened, lawful_at, asked, unless_refused, made_by, after, run, made}
use Rattle.tables.specs.Storage.{Lists, RightLengths, opened_on, kept_after, in_order}
use Rattle.tables.specs.Faultless.{Faultless}
use Rattle.tables.specs.Issued.{Says}
use Rattle.tables.specs.Promises.{EveryRun}
use Rattle.tables.proofs.Lists.{changed-length}
use Rattle.tables.proofs.Issuing.{issue-says, issued-rightly}
use Rattle.tables.proofs.Looking.{looked-up-rightly}
use Rattle.tables.proofs.Storing.{no-refusal, held-rightly}
use Rattle.tables.proofs.Testing.{in_order_lem}
use Rattle.tables.proofs.Answering.{answered-for}
use Rattle.tables.proofs.Editing.{edited-rightly}

module _ {X : Type 0} (n : ℕ) (P : X → Type 0) where
  up-to-push : (xs : List X) (x : X) → ltb (length xs) n ≡ true → P x → UpTo n P xs → UpTo n P (xs ++ (x ∷ []))
  up-to-push xs x l p h = (omega (arith, ltb-true (length xs) n l, length-append xs (x ∷ [])), All-push P xs x h.1 p)

  up-to-take : (k : ℕ) (xs : List X) → UpTo n P xs → UpTo n P (take k xs)
  up-to-take k xs h = (omega (arith, length-take k xs, h.0), All-take P k xs h.1)

  up-to-weaker : (Q : X → Type 0) → ((x : X) → P x → Q x) → (xs : List X) → UpTo n P xs → UpTo n Q xs
  up-to-weaker Q f xs h = (h.0, All-weaker P Q f xs h.1)

  up-to-map : (Q : X → Type 0) (f : X → X) → ((x : X) → P x → Q (f x)) → (xs : List X) → UpTo n P xs → UpTo n Q (map f xs)
  up-to-map Q f g xs h = (omega (arith, length-map xs f, h.0), All-map Q f xs (All-weaker P (λ x. Q (f x)) g xs h.1))

  up-to-changed : (f : X → X) → ((x : X) → P x → P (f x)) → (i : ℕ) (xs : List X) → UpTo n P xs → UpTo n P (changed i f xs)
  up-to-changed f g i xs h = (subst (λ k. k ≤ n) (sym (changed-length i f xs)) h.0, all i xs h.1)
    where
      all : (i : ℕ) (xs : List X) → AllByRecursion P xs → AllByRecursion P (changed i f xs)
      all i [] h = tt
      all zero (x ∷ xs) h = (g x h.0, h.1)
      all (suc i) (x ∷ xs) h = (h.0, all i xs h.1)

-- a quantity that exists stays as it is when one more is named
kept : {X : Type 0} (f : Option X → Bool) → f None ≡ false → (xs ys : List X) (i : ℕ) → f (slice_get xs i) ≡ true → f (slice_get (xs ++ ys) i) ≡ true
kept f z [] ys i h = absurd (false≢true (sym z ∙ h))
kept f z (x ∷ xs) ys zero h = h
kept f z (x ∷ xs) ys (suc i) h = kept f z xs ys i h

module _ {V C : Type 0} (m : Meaning V C) (qs : List (Quantity V)) where
  entries-named : (q : Quantity V) (ws : List Row) (xs : List (Entry C)) → EntriesLawful m qs ws xs → EntriesLawful m (qs ++ (q ∷ [])) ws xs
  entries-named q [] [] h = tt
  entries-named q [] (x ∷ xs) h = h
  entries-named q (w ∷ ws) [] h = h
  entries-named q (w ∷ ws) (Any ∷ xs) h = (refl, entries-named q ws xs h.1)
  entries-named q (w ∷ ws) (Cell x ∷ xs) h = (kept (cell_lawful m x) refl qs (q ∷ []) w.quantity h.0, entries-named q ws xs h.1)

  entries-row : (w : Row) (ws : List Row) (xs : List (Entry C)) → EntriesLawful m qs ws xs → EntriesLawful m qs (ws ++ (w ∷ [])) (xs ++ (Any ∷ []))
  entries-row w [] [] h = (refl, tt)
  entries-row w [] (x ∷ xs) h = absurd h
  entries-row w (v ∷ ws) [] h = absurd h
  entries-row w (v ∷ ws) (x ∷ xs) h = (h.0, entries-row w ws xs h.1)

  entries-any : (ws : List Row) → EntriesLawful m qs ws (any_of ws)
  entries-any [] = tt
  entries-any (w ∷ ws) = (refl, entries-any ws)

  entries-set : {R : Type 0} (r : Results R) (x : Entry C) (ws : List Row) (xs : List (Entry C)) (i : ℕ) → lawful_at m r qs (slice_get ws i) x ≡ true → EntriesLawful m qs ws xs → EntriesLawful m qs ws (set xs i x)
  entries-set r x [] [] i l h = tt
  entries-set r x [] (y ∷ xs) i l h = absurd h
  entries-set r x (w ∷ ws) [] i l h = absurd h
  entries-set r x (w ∷ ws) (y ∷ xs) zero l h = (l, h.1)
  entries-set r x (w ∷ ws) (y ∷ xs) (suc i) l h = (h.0, entries-set r x ws xs i l h.1)

module _ {V C R : Type 0} (m : Meaning V C) (r : Results R) where
  abbrev ColumnLawful : List (Quantity V) → List Row → Column C R → Type 0
  ColumnLawful qs ws k = EntriesLawful m qs ws k.entries × (r.lawful k.result ≡ true)

  pub edited-acceptable : (k : Edit V C R) (c : Contents V C R) → AllByRecursion (λ q. q.0 ≡ true) (asked m r k c) → Acceptable m r c → Acceptable m r (edited k c)
  edited-acceptable (name_quantity q) c y ok = record {
    quantities = up-to-push 16 (λ q. m.range q.least q.greatest ≡ true) c.quantities q y.0 y.1.0 ok.quantities;
    rows = up-to-weaker 16 (λ w. row_lawful m c.quantities w ≡ true) (λ w. row_lawful m (c.quantities ++ (q ∷ [])) w ≡ true) (λ w h. kept (mode_lawful m w.mode) refl c.quantities (q ∷ []) w.quantity h) c.rows ok.rows;
    columns = up-to-weaker 16 (ColumnLawful c.quantities c.rows) (ColumnLawful (c.quantities ++ (q ∷ [])) c.rows) (λ k h. (entries-named m c.quantities q c.rows k.entries h.0, h.1)) c.columns ok.columns;
    nevers = up-to-weaker 8 (EntriesLawful m c.quantities c.rows) (EntriesLawful m (c.quantities ++ (q ∷ [])) c.rows) (entries-named m c.quantities q c.rows) c.nevers ok.nevers;
    default = ok.default;
  }
  edited-acceptable (add_row w) c y ok = record {
    quantities = ok.quantities;
    rows = up-to-push 16 (λ w. row_lawful m c.quantities w ≡ true) c.rows w y.0 y.1.1.0 ok.rows;
    columns = up-to-map 16 (ColumnLawful c.quantities c.rows) (ColumnLawful c.quantities (c.rows ++ (w ∷ []))) (with_entries (λ xs. xs ++ (Any ∷ []))) (λ k h. (entries-row m c.quantities w c.rows k.entries h.0, h.1)) c.columns ok.columns;
    nevers = up-to-map 8 (EntriesLawful m c.quantities c.rows) (EntriesLawful m c.quantities (c.rows ++ (w ∷ []))) (λ xs. xs ++ (Any ∷ [])) (entries-row m c.quantities w c.rows) c.nevers ok.nevers;
    default = ok.default;
  }
  edited-acceptable (add_column x) c y ok = record {
    quantities = ok.quantities;
    rows = ok.rows;
    columns = up-to-push 16 (ColumnLawful c.quantities c.rows) c.columns (record { entries = any_of c.rows; result = x }) y.0 (entries-any m c.quantities c.rows, y.1.0) ok.columns;
    nevers = ok.nevers;
    default = ok.default;
  }
  edited-acceptable add_never c y ok = record {
    quantities = ok.quantities;
    rows = ok.rows;
    columns = ok.columns;
    nevers = up-to-push 8 (EntriesLawful m c.quantities c.rows) c.nevers (any_of c.rows) y.0 (entries-any m c.quantities c.rows) ok.nevers;
    default = ok.default;
  }
  edited-acceptable (set_cell i j x) c y ok =
      let f = entries-set m c.quantities r x c.rows in
      cond_both (ltb j 16) _ _ (Acceptable m r)
      (λ _. record {
        quantities = ok.quantities;
        rows = ok.rows;
        columns = up-to-changed 16 (ColumnLawful c.quantities c.rows) (with_entries (λ xs. set xs i x)) (λ k h. (f k.entries i y.1.0 h.0, h.1)) j c.columns ok.columns;
        nevers = ok.nevers;
        default = ok.default;
      })
      (λ _. record {
        quantities = ok.quantities;
        rows = ok.rows;
        columns = ok.columns;
        nevers = up-to-changed 8 (EntriesLawful m c.quantities c.rows) (λ xs. set xs i x) (λ xs h. f xs i y.1.0 h) (j - 16) c.nevers ok.nevers;
        default = ok.default;
      })
  edited-acceptable (set_default x) c y ok = record { quantities = ok.quantities; rows = ok.rows; columns = ok.columns; nevers = ok.nevers; default = y.0 }
  edited-acceptable clear_default c y ok = record { quantities = ok.quantities; rows = ok.rows; columns = ok.columns; nevers = ok.nevers; default = tt }
  edited-acceptable strike_column c y ok = record {
    quantities = ok.quantities;
    rows = ok.rows;
    columns = up-to-take 16 (ColumnLawful c.quantities c.rows) (length c.columns - 1) c.columns ok.columns;
    nevers = ok.nevers;
    default = ok.default;
  }
  edited-acceptable strike_never c y ok = record {
    quantities = ok.quantities;
    rows = ok.rows;
    columns = ok.columns;
    nevers = up-to-take 8 (EntriesLawful m c.quantities c.rows) (length c.nevers - 1) c.nevers ok.nevers;
    default = ok.default;
  }

  unless-acceptable : (k : Edit V C R) (c : Contents V C R) (o : Option SheetFault) → first_no (asked m r k c) ≡ o → Acceptable m r c → Acceptable m r (unless_refused m r o (edited k c) c)
  unless-acceptable k c None e ok = edited-acceptable k c (no-refusal (asked m r k c) e) ok
  unless-acceptable k c (Some n) e ok = ok

  pub empty-acceptable : Acceptable m r empty
  empty-acceptable = record { quantities = (omega arith, tt); rows = (omega arith, tt); columns = (omega arith, tt); nevers = (omega arith, tt); default = tt }

  module _ (law : Lawful m) (eq : Equal r) where
    -- an issued sheet has passed issue
    abbrev Passed : Status → Contents V C R → Type 0
    Passed draft c = Unit {0}
    Passed issued c = (count m c ≤ limit) × Faultless m r c

    abbrev Sound : Sheet V C R → Type 0
    Sound s = Acceptable m r s.contents × Passed s.status s.contents

    passed-by : (c : Contents V C R) (e : Encounter V) (i : Issue V) → Says m r c e i → refused i ≡ false → Passed issued c
    passed-by c e short_lists s f = absurd (true≢false f)
    passed-by c e too_many s f = absurd (true≢false f)
    passed-by c e all_barred s f = absurd (true≢false f)
    passed-by c e (shown_gap x) s f = absurd (true≢false f)
    passed-by c e (shown_clash x i j) s f = absurd (true≢false f)
    passed-by c e (shown_asymmetry x) s f = absurd (true≢false f)
    passed-by c e (accepted n) s f = (s.0.few, s.2)

    issue-sound : (c : Contents V C R) (e : Encounter V) → Acceptable m r c → Passed (cond (refused (issue m r c e)) draft issued) c
    issue-sound c e ok = cond_both (refused (issue m r c e)) draft issued (λ s. Passed s c) (λ _. tt) (passed-by c e (issue m r c e) (issue-says m law r eq c ok e))

    sound-after : (k : Call V C R) (s : Status) (c : Contents V C R) → Acceptable m r c → Passed s c → Sound (made_by m r k s c)
    sound-after (edit k) draft c ok p = (unless-acceptable k c (first_no (asked m r k c)) refl ok, tt)
    sound-after (edit k) issued c ok p = (ok, p)
    sound-after (try_issue e) draft c ok p = (ok, issue-sound c e ok)
    sound-after (try_issue e) issued c ok p = (ok, p)
    sound-after (look_up e) s c ok p = (ok, p)
    sound-after withdraw s c ok p = (ok, tt)

    sound-run : (s : Sheet V C R) → Sound s → (ks : List (Call V C R)) → Sound (run m r s ks)
    sound-run s h [] = h
    sound-run s h (k ∷ ks) = sound-run (after m r k s) (sound-after k s.status s.contents h.0 h.1) ks

    run-push : (s : Sheet V C R) (ks : List (Call V C R)) (k : Call V C R) → run m r s (ks ++ (k ∷ [])) ≡ after m r k (run m r s ks)
    run-push s [] k = refl
    run-push s (x ∷ ks) k = run-push (after m r x s) ks k

    pub every-run : (calls : List (Call V C R)) → EveryRun m r calls
    every-run ks =
        let c = (made m r ks).contents in
        let h = sound-run opened (empty-acceptable, tt) ks in
        let first : (l : Lists V C R) → RightLengths l → in_order m r (kept_after m r (opened_on l) ks).counts (kept_after m r (opened_on l) ks).lists ≡ true = λ l s.
        let k = kept_after m r (opened_on l) ks in
        let t = held-rightly m r ks l s in
        (in_order_lem m r k.counts k.lists).1 (t.lengths, subst (Acceptable m r) (sym t.contents) h.0) in
        record {
          acceptable = h.0;
          held = held-rightly m r ks;
          first_question = first;
          answers = λ l s. let k = kept_after m r (opened_on l) ks in answered-for m r k.counts k.lists c (first l s) (held-rightly m r ks l s).contents;
          onward = run-push opened ks;
          editing = edited-rightly m r c;
          issuing = λ lent. issued-rightly m law r eq c h.0 lent;
          looking = looked-up-rightly m r c;
          within = λ e. (subst (λ s. Passed s c) e h.1).0;
          faultless = λ e. (subst (λ s. Passed s c) e h.1).1;
        }
