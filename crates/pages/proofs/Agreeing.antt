-- Draft calls that are all accepted: what they make of contents, and of the counts and lists that hold these. Assumes nothing.
use Rattle.std.proofs.Common.{◌≡◌, ℕ, ◌+◌, ◌≤◌, true, List, [], ◌∷◌, ◌++◌, map, length, take, Some, None, Ok, Option, sym, refl, ap, ◌∙◌, subst, arith, length-take}
use Rattle.std.specs.List.{AllByRecursion}
use Rattle.std.proofs.lemmas.List.FromFn.{length-map-range_with_len}
use Rattle.house.specs.House.{Value, Cell, house}
use Rattle.items.specs.declared.Counts.{Counts}
use Rattle.results.specs.declared.figure.Figure.{Figure}
use Rattle.results.specs.Figures.{figures}
use Rattle.faults.specs.declared.SheetFault.{SheetFault}
use Rattle.page_faults.specs.declared.LineFault.{LineFault}
use Rattle.tables.specs.Acceptance.{Acceptable}
use Rattle.tables.specs.Answers.{edit_answer}
use Rattle.tables.specs.Calls.{Edit, edit, asked, edited, first_no, unless_refused, run}
use Rattle.tables.specs.Contents.{Contents}
use Rattle.tables.specs.Edits.{draft_of}
use Rattle.tables.specs.Storage.{Bounded, RightLengths, column_of, contents_of, counts_after, lists_after, in_order}
use Rattle.tables.proofs.Answering.{answered-for}
use Rattle.tables.proofs.Reaching.{no-no}
use Rattle.tables.proofs.Running.{edited-acceptable}
use Rattle.tables.proofs.Storing.{no-refusal, stored, columns-length}
use Rattle.tables.proofs.Testing.{in_order_lem}
use Rattle.text.proofs.LineTexts.{ok_same}
use Rattle.pages.specs.Reads.{PageLists, Asked, Went, step, make_all}

abbrev pub PageContents : Type 0
PageContents = Contents Value Cell Figure

abbrev pub PageEdit : Type 0
PageEdit = Edit Value Cell Figure

-- every question of an edit is answered yes
abbrev pub Agreed : PageEdit → PageContents → Type 0
Agreed k c = AllByRecursion (λ q. q.0 ≡ true) (asked house figures k c)

-- and so for edits one after the other
abbrev pub AllAgreed : List PageEdit → PageContents → Type 0
AllAgreed [] c = Unit {0}
AllAgreed (k ∷ ks) c = Agreed k c × AllAgreed ks (edited k c)

-- what they make
abbrev pub edited_by : List PageEdit → PageContents → PageContents
edited_by [] c = c
edited_by (k ∷ ks) c = edited_by ks (edited k c)

pub agreed-both : (xs ys : List PageEdit) (c : PageContents) → AllAgreed xs c → AllAgreed ys (edited_by xs c) → AllAgreed (xs ++ ys) c
agreed-both [] ys c a b = b
agreed-both (x ∷ xs) ys c a b = (a.0, agreed-both xs ys (edited x c) a.1 b)

pub edited-both : (xs ys : List PageEdit) (c : PageContents) → edited_by (xs ++ ys) c ≡ edited_by ys (edited_by xs c)
edited-both [] ys c = refl
edited-both (x ∷ xs) ys c = edited-both xs ys (edited x c)

pub run-agreed : (ks : List PageEdit) (c : PageContents) → AllAgreed ks c → run house figures (draft_of c) (map edit ks) ≡ draft_of (edited_by ks c)
run-agreed [] c a = refl
run-agreed (k ∷ ks) c a =
    ap (λ o. run house figures (draft_of (unless_refused house figures o (edited k c) c)) (map edit ks)) (no-no (asked house figures k c) a.0)
    ∙ run-agreed ks (edited k c) a.1

-- counts and lists that hold contents which the draft calls would accept
pub record Held (n : Counts) (l : PageLists) (c : PageContents) : Type 0 where
  pub bounded : Bounded n
  pub lengths : RightLengths l
  pub contents : contents_of n l ≡ c
  pub acceptable : Acceptable house figures c

module _ {n : Counts} {l : PageLists} {c : PageContents} (h : Held n l c) where
  pub held-ordered : in_order house figures n l ≡ true
  held-ordered = (in_order_lem house figures n l).1 (h.lengths, subst (Acceptable house figures) (sym h.contents) h.acceptable)

  held-answer : (k : PageEdit) → edit_answer house figures n l k ≡ first_no (asked house figures k c)
  held-answer k = (answered-for house figures n l c held-ordered h.contents).edits k

  held-edited : (k : PageEdit) → Agreed k c → Held (counts_after k n) (lists_after k n l) (edited k c)
  held-edited k a =
      let t = stored house figures n l h.bounded h.lengths k (subst (Agreed k) (sym h.contents) a) in
      record {
        bounded = t.bounded;
        lengths = t.lengths;
        contents = t.contents ∙ ap (edited k) h.contents;
        acceptable = edited-acceptable house figures k c a h.acceptable;
      }

  front : {X : Type 0} (k : ℕ) (xs : List X) (q : ℕ) → length xs ≡ q → k ≤ q → length (take k xs) ≡ k
  front k xs q e b = omega (arith, length-take k xs)

  -- how many rows, columns and nevers there are
  pub held_rows : n.rows ≡ length c.rows
  held_rows = sym (front n.rows l.rows 16 h.lengths.rows h.bounded.rows) ∙ ap (λ d. length d.rows) h.contents

  pub held-columns : n.columns ≡ length c.columns
  held-columns =
      let few = h.bounded.columns in
      sym (columns-length l.entries n.rows 0 (take n.columns l.results) ∙ front n.columns l.results 17 h.lengths.results (omega arith))
      ∙ ap (λ d. length d.columns) h.contents

  pub held-nevers : n.nevers ≡ length c.nevers
  held-nevers = sym (length-map-range_with_len (λ j. column_of l.entries n.rows (16 + j)) 0 n.nevers) ∙ ap (λ d. length d.nevers) h.contents

-- a call that was accepted
step-accepted : (k : Asked) (n : Counts) (l : PageLists) (c : PageContents) (o : Option SheetFault) → o ≡ first_no (asked house figures k.edit c) → (next : Counts → PageLists → Went LineFault) (m : Counts)
    → (step o k n l next).answer ≡ Ok m → Agreed k.edit c × (step o k n l next ≡ next (counts_after k.edit n) (lists_after k.edit n l))
step-accepted k n l c None q next m e = (no-refusal (asked house figures k.edit c) (sym q), refl)
step-accepted k n l c (Some f) q next m e = let z : ◌≡◌ {A = ℕ} 0 1 = cc in absurd (omega arith)

-- calls that were all made
pub all_made : (ks : List Asked) (n : Counts) (l : PageLists) (c : PageContents) (m : Counts) → Held n l c → (make_all ks n l).answer ≡ Ok m
    → AllAgreed (map (λ k. k.edit) ks) c × Held m (make_all ks n l).lists (edited_by (map (λ k. k.edit) ks) c)
all_made [] n l c m h e = (tt, subst (λ v. Held v l c) (ok_same n m e) h)
all_made (k ∷ ks) n l c m h e =
    let s = step-accepted k n l c (edit_answer house figures n l k.edit) (held-answer h k.edit) (make_all ks) m e in
    let r = all_made ks (counts_after k.edit n) (lists_after k.edit n l) (edited k.edit c) m (held-edited h k.edit s.0) (sym (ap (λ w. w.answer) s.1) ∙ e) in
    ((s.0, r.0), subst (λ w. Held m w.lists (edited_by (map (λ k. k.edit) ks) (edited k.edit c))) (sym s.1) r.1)

-- calls that are all accepted are made
pub make-agreed : (ks : List Asked) (n : Counts) (l : PageLists) (c : PageContents) → Held n l c → AllAgreed (map (λ k. k.edit) ks) c → (m : Counts) × ((make_all ks n l).answer ≡ Ok m)
make-agreed [] n l c h a = (n, refl)
make-agreed (k ∷ ks) n l c h a =
    let r = make-agreed ks (counts_after k.edit n) (lists_after k.edit n l) (edited k.edit c) (held-edited h k.edit a.0) a.1 in
    (r.0, ap (λ o. (step o k n l (make_all ks)).answer) (held-answer h k.edit ∙ no-no (asked house figures k.edit c) a.0) ∙ r.1)
