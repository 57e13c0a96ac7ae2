-- The draft calls of one line, and what the line adds to the contents. Assumes nothing.
use Rattle.std.proofs.Common.{◌≡◌, ℕ, suc, ◌+◌, ◌-◌, true, ltb, List, [], ◌∷◌, ◌++◌, map, length, set, sym, refl, ap, ◌∙◌, ap₂, append_assoc, arith, length-append}
use Rattle.std.proofs.lemmas.List.{length-map, set_at}
use Rattle.std.proofs.lemmas.Bool.{cond-true, cond-false, le-ltb}
use Rattle.house.specs.House.{Cell}
use Rattle.items.specs.declared.Counts.{Counts}
use Rattle.items.specs.declared.Entry.{Entry}
use Rattle.results.specs.declared.figure.Figure.{Figure}
use Rattle.tables.specs.Calls.{name_quantity, add_row, add_column, add_never, set_cell, set_default, edited, any_of, with_entries, with_columns, with_nevers}
use Rattle.tables.specs.Words.{changed}
use Rattle.tables.proofs.Reaching.{changed-last}
use Rattle.text.specs.Lines.{Line, quantity_line, row_line, column_line, never_line, default_line}
use Rattle.text.specs.Texts.{Said, say_quantity, say_row, say_column, say_never, say_default, said, unplaced, LineRight}
use Rattle.text.specs.declared.types.Placed.{Placed}
use Rattle.pages.specs.Reads.{PageLists, cells_from, calls_of}
use Rattle.pages.specs.ThereAndBack.{set_cells, calls_from}
use Rattle.pages.proofs.Agreeing.{PageContents, PageEdit, AllAgreed, edited_by, Held, held-columns, held-nevers}

-- the draft calls of a line, after so many columns and nevers
abbrev pub edits_of : ℕ → ℕ → Said → List PageEdit
edits_of columns nevers (say_quantity q) = name_quantity q ∷ []
edits_of columns nevers (say_row w) = add_row w ∷ []
edits_of columns nevers (say_column x es) = add_column x ∷ set_cells columns 0 es
edits_of columns nevers (say_never es) = add_never ∷ set_cells (16 + nevers) 0 es
edits_of columns nevers (say_default x) = set_default x ∷ []

-- how many columns and nevers there are after it
abbrev pub columns_with : Said → ℕ → ℕ
columns_with (say_quantity q) n = n
columns_with (say_row w) n = n
columns_with (say_column x es) n = suc n
columns_with (say_never es) n = n
columns_with (say_default x) n = n

abbrev pub nevers_with : Said → ℕ → ℕ
nevers_with (say_quantity q) n = n
nevers_with (say_row w) n = n
nevers_with (say_column x es) n = n
nevers_with (say_never es) n = suc n
nevers_with (say_default x) n = n

pub calls-split : (columns nevers : ℕ) (x : Said) (xs : List Said) → calls_from columns nevers (x ∷ xs) ≡ edits_of columns nevers x ++ calls_from (columns_with x columns) (nevers_with x nevers) xs
calls-split columns nevers (say_quantity q) xs = refl
calls-split columns nevers (say_row w) xs = refl
calls-split columns nevers (say_column x es) xs = refl
calls-split columns nevers (say_never es) xs = refl
calls-split columns nevers (say_default x) xs = refl

cells-edits : (column i : ℕ) (ps : List Placed) → map (λ k. k.edit) (cells_from column i ps) ≡ set_cells column i (unplaced ps)
cells-edits column i [] = refl
cells-edits column i (p ∷ ps) = ap (λ ks. set_cell i column p.entry ∷ ks) (cells-edits column (suc i) ps)

calls-edits : (n : Counts) (x : Line) → map (λ k. k.edit) (calls_of n x) ≡ edits_of n.columns n.nevers (said x)
calls-edits n (quantity_line q) = refl
calls-edits n (row_line r) = refl
calls-edits n (column_line x ps) = ap (λ ks. add_column x ∷ ks) (cells-edits n.columns 0 ps)
calls-edits n (never_line ps) = ap (λ ks. add_never ∷ ks) (cells-edits (16 + n.nevers) 0 ps)
calls-edits n (default_line x) = refl

-- the draft calls of a line on contents
abbrev pub line_edits : PageContents → Said → List PageEdit
line_edits c x = edits_of (length c.columns) (length c.nevers) x

pub line-calls : {n : Counts} {l : PageLists} {c : PageContents} → Held n l c → (x : Line) → map (λ k. k.edit) (calls_of n x) ≡ line_edits c (said x)
line-calls {n} {l} {c} h x = calls-edits n x ∙ ap₂ (λ a b. edits_of a b (said x)) (held-columns h) (held-nevers h)

-- the contents with a line more
abbrev pub added : Said → PageContents → PageContents
added (say_quantity q) c = edited (name_quantity q) c
added (say_row w) c = edited (add_row w) c
added (say_column x es) c = with_columns c (c.columns ++ (record { entries = es; result = x } ∷ []))
added (say_never es) c = with_nevers c (c.nevers ++ (es ∷ []))
added (say_default x) c = edited (set_default x) c

one_more : {X : Type 0} (xs : List X) (x : X) → length (xs ++ (x ∷ [])) ≡ suc (length xs)
one_more xs x = omega (arith, length-append xs (x ∷ []))

pub added-columns : (x : Said) (c : PageContents) → length (added x c).columns ≡ columns_with x (length c.columns)
added-columns (say_quantity q) c = refl
added-columns (say_row w) c = length-map c.columns _
added-columns (say_column x es) c = one_more c.columns (record { entries = es; result = x })
added-columns (say_never es) c = refl
added-columns (say_default x) c = refl

pub added-nevers : (x : Said) (c : PageContents) → length (added x c).nevers ≡ nevers_with x (length c.nevers)
added-nevers (say_quantity q) c = refl
added-nevers (say_row w) c = length-map c.nevers _
added-nevers (say_column x es) c = refl
added-nevers (say_never es) c = one_more c.nevers es
added-nevers (say_default x) c = refl

-- a line with one entry a row
abbrev pub Even : ℕ → Said → Type 0
Even n (say_quantity q) = Unit {0}
Even n (say_row w) = Unit {0}
Even n (say_column x es) = length es ≡ n
Even n (say_never es) = length es ≡ n
Even n (say_default x) = Unit {0}

pub right-even : (n : ℕ) (x : Said) → LineRight n x → Even n x
right-even n (say_quantity q) h = tt
right-even n (say_row w) h = tt
right-even n (say_column x es) h = h.1
right-even n (say_never es) h = h.0
right-even n (say_default x) h = tt

-- an entry set in the column or never that a line adds
module _ (c : PageContents) (i : ℕ) (y : Entry Cell) (es : List (Entry Cell)) where
  pub put-column : (x : Figure) → ltb (length c.columns) 16 ≡ true → edited (set_cell i (length c.columns) y) (added (say_column x es) c) ≡ added (say_column x (set es i y)) c
  put-column x h = cond-true (ltb (length c.columns) 16) _ _ h ∙ ap (with_columns c) (changed-last c.columns (record { entries = es; result = x }) (with_entries (λ xs. set xs i y)))

  pub put-never : edited (set_cell i (16 + length c.nevers) y) (added (say_never es) c) ≡ added (say_never (set es i y)) c
  put-never =
      let j = 16 + length c.nevers in
      let at : j - 16 ≡ length c.nevers = omega arith in
      cond-false (ltb j 16) _ _ (le-ltb j 16 (omega arith)) ∙ ap (λ k. with_nevers c (changed k (λ xs. set xs i y) (c.nevers ++ (es ∷ [])))) at ∙ ap (with_nevers c) (changed-last c.nevers es (λ xs. set xs i y))

-- entries set one after the other, from row i on, in contents g that have these entries in their last column
filled : (g : List (Entry Cell) → PageContents) (j : ℕ) → ((i : ℕ) (x : Entry Cell) (es : List (Entry Cell)) → edited (set_cell i j x) (g es) ≡ g (set es i x))
    → (pre old es : List (Entry Cell)) (i : ℕ) → length pre ≡ i → length es ≡ length old → edited_by (set_cells j i es) (g (pre ++ old)) ≡ g (pre ++ es)
filled g j put pre [] [] i l e = refl
filled g j put pre [] (x ∷ es) i l e = absurd (omega arith)
filled g j put pre (y ∷ old) [] i l e = absurd (omega arith)
filled g j put pre (y ∷ old) (x ∷ es) i l e =
    ap (edited_by (set_cells j (suc i) es)) (put i x (pre ++ (y ∷ old)) ∙ ap g (set_at pre y old x i l ∙ sym (append_assoc pre (x ∷ []) old)))
    ∙ filled g j put (pre ++ (x ∷ [])) old es (suc i) (one_more pre x ∙ ap suc l) (omega arith)
    ∙ ap g (append_assoc pre (x ∷ []) es)

any-even : (c : PageContents) (es : List (Entry Cell)) → length es ≡ length c.rows → length es ≡ length {A = Entry Cell} (any_of c.rows)
any-even c es e = e ∙ sym (length-map c.rows _)

-- the calls of a line add the line
pub line_made : (x : Said) (c : PageContents) → Even (length c.rows) x → AllAgreed (line_edits c x) c → edited_by (line_edits c x) c ≡ added x c
line_made (say_quantity q) c e a = refl
line_made (say_row w) c e a = refl
line_made (say_column x es) c e a = filled (λ es. added (say_column x es) c) (length c.columns) (λ i y es. put-column c i y es x a.0.0) [] (any_of c.rows) es 0 refl (any-even c es e)
line_made (say_never es) c e a = filled (λ es. added (say_never es) c) (16 + length c.nevers) (put-never c) [] (any_of c.rows) es 0 refl (any-even c es e)
line_made (say_default x) c e a = refl
