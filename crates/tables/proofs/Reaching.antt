-- The draft calls can make every acceptable contents. Assumes nothing.
use Rattle.std.proofs.Common.{◌≡◌, ℕ, zero, suc, ◌+◌, ◌-◌, ◌<◌, ◌≤◌, Bool, true, false, ltb, List, [], ◌∷◌, ◌++◌, length, set, Some, None, Option, sym, refl, ap, ◌∙◌, subst, ap₂, append_assoc, append-nil, arith, length-append}
use Rattle.std.specs.List.{slice_get, AllByRecursion}
use Rattle.std.proofs.lemmas.Bool.{cond-true, cond-false, lt-ltb, le-ltb, and_from, false≢true}
use Rattle.kinds.specs.Meaning.{Meaning}
use Rattle.faults.specs.declared.SheetFault.{SheetFault}
use Rattle.results.specs.Results.{Results}
use Rattle.items.specs.declared.Quantity.{Quantity}
use Rattle.items.specs.declared.Row.{Row}
use Rattle.items.specs.declared.Entry.{Entry}
use Rattle.items.specs.declared.Entry.TheVariants.{Any}
use Rattle.tables.specs.Words.{changed}
use Rattle.tables.specs.Contents.{Contents, Column}
use Rattle.tables.specs.Acceptance.{Acceptable, range_lawful, row_lawful, mode_lawful, EntriesLawful, DefaultLawful}
use Rattle.tables.specs.Calls.{Edit, name_quantity, add_row, add_column, add_never, set_cell, set_default, Call, edit, Sheet, first_no, any_of, with_entries, with_columns, with_nevers, edited, empty, lawful_at, asked, column_exists, unless_refused, after, run}
use Rattle.tables.specs.Edits.{draft_of}
use Rattle.tables.specs.Promises.{Makeable}

pub no-no : (qs : List (Bool × SheetFault)) → AllByRecursion (λ q. q.0 ≡ true) qs → first_no qs ≡ None
no-no [] a = refl
no-no (q ∷ qs) a = cond-true q.0 (first_no qs) (Some q.1) a.0 ∙ no-no qs a.1

module _ {X : Type 0} where
  set_at : (xs ys : List X) (x y : X) → set (xs ++ (x ∷ ys)) (length xs) y ≡ xs ++ (y ∷ ys)
  set_at [] ys x y = refl
  set_at (z ∷ xs) ys x y = ap (λ l. z ∷ l) (set_at xs ys x y)

  pub nth-at : (xs ys : List X) (x : X) → slice_get (xs ++ (x ∷ ys)) (length xs) ≡ Some x
  nth-at [] ys x = refl
  nth-at (z ∷ xs) ys x = nth-at xs ys x

  pub changed-last : (xs : List X) (x : X) (f : X → X) → changed (length xs) f (xs ++ (x ∷ [])) ≡ xs ++ (f x ∷ [])
  changed-last [] x f = refl
  changed-last (z ∷ xs) x f = ap (λ l. z ∷ l) (changed-last xs x f)

module _ {V C R : Type 0} (m : Meaning V C) (r : Results R) where
  abbrev Reach : Contents V C R → Contents V C R → Type 0
  Reach c d = (ks : List (Call V C R)) × (run m r (draft_of c) ks ≡ draft_of d)

  run-both : (s : Sheet V C R) (xs ys : List (Call V C R)) → run m r s (xs ++ ys) ≡ run m r (run m r s xs) ys
  run-both s [] ys = refl
  run-both s (x ∷ xs) ys = run-both (after m r x s) xs ys

  reach-then : (c d e : Contents V C R) → Reach c d → Reach d e → Reach c e
  reach-then c d e x y = (x.0 ++ y.0, run-both (draft_of c) x.0 y.0 ∙ ap (λ s. run m r s y.0) x.1 ∙ y.1)

  by-edit : (c d : Contents V C R) (k : Edit V C R) → AllByRecursion (λ q. q.0 ≡ true) (asked m r k c) → edited k c ≡ d → Reach c d
  by-edit c d k a e = (edit k ∷ [], ap (λ o. draft_of (unless_refused m r o (edited k c) c)) (no-no (asked m r k c) a) ∙ ap draft_of e)

  -- one after the other, up to n
  add-all : {X : Type 0} (P : X → Type 0) (n : ℕ) (f : List X → Contents V C R) → ((xs : List X) (x : X) → length xs < n → P x → Reach (f xs) (f (xs ++ (x ∷ []))))
      → (xs rest : List X) → length xs + length rest ≤ n → AllByRecursion P rest → Reach (f xs) (f (xs ++ rest))
  add-all P n f step xs [] l a = ([], ap (λ l. draft_of (f l)) (sym (append-nil xs)))
  add-all P n f step xs (x ∷ rest) l a =
      reach-then (f xs) (f (xs ++ (x ∷ []))) (f (xs ++ (x ∷ rest))) (step xs x (omega arith) a.0)
      (subst (λ l. Reach (f (xs ++ (x ∷ []))) (f l)) (append_assoc xs (x ∷ []) rest) (add-all P n f step (xs ++ (x ∷ [])) rest (simp length-append (omega arith)) a.1))

  abbrev holding : List (Quantity V) → List Row → List (Column C R) → List (List (Entry C)) → Option R → Contents V C R
  holding qs ws ks ns d = record { quantities = qs; rows = ws; columns = ks; nevers = ns; default = d }

  name-all : (qs : List (Quantity V)) → length qs ≤ 16 → AllByRecursion (λ q. range_lawful m q ≡ true) qs → Reach empty (holding qs [] [] [] None)
  name-all qs l a =
      add-all (λ q. range_lawful m q ≡ true) 16 (λ qs. holding qs [] [] [] None)
      (λ xs q l y. by-edit (holding xs [] [] [] None) (holding (xs ++ (q ∷ [])) [] [] [] None) (name_quantity q) (lt-ltb (length xs) 16 l, (y, tt)) refl) [] qs (omega arith) a

  module _ (qs : List (Quantity V)) where
    pub exists : (xs : List (Quantity V)) (w : Row) (i : ℕ) → mode_lawful m w.mode (slice_get xs i) ≡ true → i < length xs
    exists [] w i h = absurd (false≢true h)
    exists (x ∷ xs) w zero h = omega arith
    exists (x ∷ xs) w (suc i) h = let k = exists xs w i h in omega arith

    row-all : (ws : List Row) → length ws ≤ 16 → AllByRecursion (λ w. row_lawful m qs w ≡ true) ws → Reach (holding qs [] [] [] None) (holding qs ws [] [] None)
    row-all ws l a =
        add-all (λ w. row_lawful m qs w ≡ true) 16 (λ ws. holding qs ws [] [] None)
        (λ xs w l y. by-edit (holding qs xs [] [] None) (holding qs (xs ++ (w ∷ [])) [] [] None) (add_row w)
        (lt-ltb (length xs) 16 l, (lt-ltb w.quantity (length qs) (exists qs w w.quantity y), (y, tt))) refl) [] ws (omega arith) a

    module _ (ws : List Row) where
      -- from any in every row to the entries, row by row
      fill : (g : List (Entry C) → Contents V C R) → ((i : ℕ) (x : Entry C) (es : List (Entry C)) → i < length ws → lawful_at m r qs (slice_get ws i) x ≡ true → Reach (g es) (g (set es i x)))
          → (vs us : List Row) → vs ++ us ≡ ws → (pre xs : List (Entry C)) → length pre ≡ length vs → EntriesLawful m qs us xs → Reach (g (pre ++ any_of us)) (g (pre ++ xs))
      fill g put vs [] e pre [] l h = ([], refl)
      fill g put vs [] e pre (x ∷ xs) l h = absurd h
      fill g put vs (w ∷ us) e pre [] l h = absurd h
      fill g put vs (w ∷ us) e pre (x ∷ xs) l h =
          let low : length pre < length ws = omega (arith, simp length-append at (ap length e)) in
          let here : slice_get ws (length pre) ≡ Some w = ap₂ slice_get (sym e) l ∙ nth-at vs us w in
          reach-then (g (pre ++ (Any ∷ any_of us))) (g (pre ++ (x ∷ any_of us))) (g (pre ++ (x ∷ xs)))
          (subst (λ es. Reach (g (pre ++ (Any ∷ any_of us))) (g es)) (set_at pre (any_of us) Any x) (put (length pre) x (pre ++ (Any ∷ any_of us)) low (ap (λ o. lawful_at m r qs o x) here ∙ h.0)))
          (subst (λ es. Reach (g es) (g (pre ++ (x ∷ xs)))) (append_assoc pre (x ∷ []) (any_of us))
          (subst (λ es. Reach (g ((pre ++ (x ∷ [])) ++ any_of us)) (g es)) (append_assoc pre (x ∷ []) xs)
          (fill g put (vs ++ (w ∷ [])) us (append_assoc vs (w ∷ []) us ∙ e) (pre ++ (x ∷ [])) xs (simp length-append (omega arith)) h.1)))

      column-step : (ks : List (Column C R)) (k : Column C R) → length ks < 16 → EntriesLawful m qs ws k.entries × (r.lawful k.result ≡ true) → Reach (holding qs ws ks [] None) (holding qs ws (ks ++ (k ∷ [])) [] None)
      column-step ks k l y =
          let g : List (Entry C) → Contents V C R = λ es. holding qs ws (ks ++ (record { entries = es; result = k.result } ∷ [])) [] None in
          reach-then (holding qs ws ks [] None) (g (any_of ws)) (g k.entries)
          (by-edit (holding qs ws ks [] None) (g (any_of ws)) (add_column k.result) (lt-ltb (length ks) 16 l, (y.1, tt)) refl)
          (fill g (λ i x es low h.
          let c = g es in
          let j = length ks in
          by-edit c (g (set es i x)) (set_cell i j x)
          (and_from (ltb i (length ws)) (column_exists c j) (lt-ltb i (length ws) low) (cond-true (ltb j 16) _ _ (lt-ltb j 16 l) ∙ lt-ltb j (length c.columns) (simp length-append (omega arith))), (h, tt))
          (cond-true (ltb j 16) _ _ (lt-ltb j 16 l) ∙ ap (with_columns c) (changed-last ks (record { entries = es; result = k.result }) (with_entries (λ xs. set xs i x)))))
          [] ws refl [] k.entries refl y.0)

      never-step : (ks : List (Column C R)) (ns : List (List (Entry C))) (n : List (Entry C)) → length ns < 8 → EntriesLawful m qs ws n → Reach (holding qs ws ks ns None) (holding qs ws ks (ns ++ (n ∷ [])) None)
      never-step ks ns n l y =
          let g : List (Entry C) → Contents V C R = λ es. holding qs ws ks (ns ++ (es ∷ [])) None in
          reach-then (holding qs ws ks ns None) (g (any_of ws)) (g n)
          (by-edit (holding qs ws ks ns None) (g (any_of ws)) add_never (lt-ltb (length ns) 8 l, tt) refl)
          (fill g (λ i x es low h.
          let c = g es in
          let j = 16 + length ns in
          let at : j - 16 ≡ length ns = omega arith in
          let high : ltb j 16 ≡ false = le-ltb j 16 (omega arith) in
          by-edit c (g (set es i x)) (set_cell i j x)
          (and_from (ltb i (length ws)) (column_exists c j) (lt-ltb i (length ws) low) (cond-false (ltb j 16) _ _ high ∙ lt-ltb (j - 16) (length c.nevers) (simp length-append (omega arith))), (h, tt))
          (cond-false (ltb j 16) _ _ high ∙ ap (λ k. with_nevers c (changed k (λ xs. set xs i x) (ns ++ (es ∷ [])))) at ∙ ap (with_nevers c) (changed-last ns es (λ xs. set xs i x))))
          [] ws refl [] n refl y)

  default-step : (c : Contents V C R) (d : Option R) → DefaultLawful r d → Reach (holding c.quantities c.rows c.columns c.nevers None) (holding c.quantities c.rows c.columns c.nevers d)
  default-step c None h = ([], refl)
  default-step c (Some x) h = by-edit (holding c.quantities c.rows c.columns c.nevers None) (holding c.quantities c.rows c.columns c.nevers (Some x)) (set_default x) (h, tt) refl

  pub makeable : (c : Contents V C R) → Acceptable m r c → Makeable m r c
  makeable c ok =
      let qs = c.quantities in
      let ws = c.rows in
      let ks = c.columns in
      let ns = c.nevers in
      reach-then empty (holding qs [] [] [] None) c (name-all qs ok.quantities.0 ok.quantities.1)
      (reach-then (holding qs [] [] [] None) (holding qs ws [] [] None) c (row-all qs ws ok.rows.0 ok.rows.1)
      (reach-then (holding qs ws [] [] None) (holding qs ws ks [] None) c
      (add-all (λ k. EntriesLawful m qs ws k.entries × (r.lawful k.result ≡ true)) 16 (λ ks. holding qs ws ks [] None) (column-step qs ws) [] ks (omega (arith, ok.columns.0)) ok.columns.1)
      (reach-then (holding qs ws ks [] None) (holding qs ws ks ns None) c
      (add-all (EntriesLawful m qs ws) 8 (λ ns. holding qs ws ks ns None) (never-step qs ws ks) [] ns (omega (arith, ok.nevers.0)) ok.nevers.1)
      (default-step c c.default ok.default))))
