-- An edit whose questions are all answered yes has room, and is stored as it should be. Assumes nothing.
use Rattle.std.proofs.Common.{◌≡◌, ℕ, ◌-◌, ◌<◌, ◌≤◌, true, cond, ltb, length, Some, None, Ok, Err, Option, sym, refl, ap, ◌∙◌, subst, ap₂, arith}
use Rattle.std.proofs.lemmas.Bool.{ltb-true, and_parts, cond_both}
use Rattle.std.proofs.lemmas.Bool.Decides.{nat_tests}
use Rattle.faults.specs.declared.SheetFault.{SheetFault}
use Rattle.faults.specs.declared.SheetFault.TheVariants.{Lists as WrongLists}
use Rattle.kinds.specs.Meaning.{Meaning}
use Rattle.results.specs.Results.{Results}
use Rattle.items.specs.declared.Counts.{Counts}
use Rattle.tables.specs.Answers.{edit_answer}
use Rattle.tables.specs.Calls.{Edit, asked, first_no, column_exists, edited}
use Rattle.tables.specs.Storage.{Lists, Bounded, RightLengths, contents_of, counts_after, lists_after, in_order}
use Rattle.tables.proofs.Lists.{none-some}
use Rattle.tables.proofs.Testing.{in_order_lem}
use Rattle.tables.proofs.Storing.{stored, no-refusal}
use Rattle.edits.proofs.Counting.{Counted, counted}
use Rattle.edits.specs.Meant.{edit_of, Room, told, given, unless, EditLeaves}
use Rattle.edits.specs.declared.edit.Edit.{Edit as Given}
use Rattle.edits.specs.declared.edit.Edit.TheVariants.{NameQuantity, AddRow, AddColumn, AddNever, SetCell, SetDefault, ClearDefault, StrikeColumn, StrikeNever}

below : (k n b : ℕ) → ltb k b ≡ true → k ≡ n → n < b
below k n b t e = omega (arith, ltb-true k b t)

above : (k n : ℕ) → ltb 0 k ≡ true → k ≡ n → 0 < n
above k n t e = omega (arith, ltb-true 0 k t)

in-sheet : (j a b n k : ℕ) → cond (ltb j 16) (ltb j a) (ltb (j - 16) b) ≡ true → a ≡ n → b ≡ k → n ≤ 16 → k ≤ 8 → j < 24
in-sheet j a b n k h p q s t = grind (arith, nat_tests)

told-ok : (o : Option SheetFault) → Ok tt ≡ told o → o ≡ None
told-ok None e = refl
told-ok (Some f) e = let z : ◌≡◌ {A = ℕ} 0 1 = cc in absurd (omega arith)

told-err : (o : Option SheetFault) (f : SheetFault) → Err f ≡ told o → o ≡ Some f
told-err None f e = let z : ◌≡◌ {A = ℕ} 0 1 = cc in absurd (omega arith)
told-err (Some g) f e = let h : g ≡ f = cc in ap Some h

-- the answer without what is in use after it
pub given-ok : {X : Type 0} (o : Option SheetFault) (x y : X) → Ok x ≡ given o y → Ok tt ≡ told o
given-ok None x y e = refl
given-ok (Some f) x y e = let z : ◌≡◌ {A = ℕ} 0 1 = cc in absurd (omega arith)

pub given-err : {X : Type 0} (o : Option SheetFault) (f : SheetFault) (y : X) → Err f ≡ given o y → Err f ≡ told o
given-err None f y e = let z : ◌≡◌ {A = ℕ} 0 1 = cc in absurd (omega arith)
given-err (Some g) f y e = let h : f ≡ g = cc in ap Err h

-- an accepted edit, and one that is refused
abbrev Accepted : {V C R : Type 0} → Meaning V C → Results R → Edit V C R → Counts → Lists V C R → Type 0
Accepted m r k n l = Ok tt ≡ told (edit_answer m r n l k)

module _ {V C R : Type 0} (m : Meaning V C) (r : Results R) (n : Counts) (l : Lists V C R) (few : Bounded n) where
  all_yes : (k : Edit V C R) → edit_answer m r n l k ≡ None → (in_order m r n l ≡ true) × (first_no (asked m r k (contents_of n l)) ≡ None)
  all_yes k e =
      cond_both (in_order m r n l) (first_no (asked m r k (contents_of n l))) (Some WrongLists) (λ o. o ≡ None → (in_order m r n l ≡ true) × (first_no (asked m r k (contents_of n l)) ≡ None))
      (λ t h. (t, h)) (λ _ h. none-some WrongLists (sym h)) e

  right : (k : Edit V C R) → edit_answer m r n l k ≡ None → RightLengths l
  right k e = ((in_order_lem m r n l).0 (all_yes k e).0).0

  fits : (size : Counted n l) (k : Given V C R) → first_no (asked m r (edit_of k) (contents_of n l)) ≡ None → Room k n
  fits size (NameQuantity q) h = below _ _ 16 (no-refusal (asked m r (edit_of (NameQuantity q)) (contents_of n l)) h).0 size.quantities
  fits size (AddRow w) h = below _ _ 16 (no-refusal (asked m r (edit_of (AddRow w)) (contents_of n l)) h).0 size.rows
  fits size (AddColumn x) h = below _ _ 16 (no-refusal (asked m r (edit_of (AddColumn x)) (contents_of n l)) h).0 size.columns
  fits size AddNever h = below _ _ 8 (no-refusal (asked m r (edit_of AddNever) (contents_of n l)) h).0 size.nevers
  fits size (SetCell i j x) h =
      let p = and_parts (ltb i (length (contents_of n l).rows)) (column_exists (contents_of n l) j) (no-refusal (asked m r (edit_of (SetCell i j x)) (contents_of n l)) h).0 in (
        omega (arith, ltb-true i (length (contents_of n l).rows) p.0, size.rows, few.rows),
        in-sheet j (length (contents_of n l).columns) (length (contents_of n l).nevers) n.columns n.nevers p.1 size.columns size.nevers few.columns few.nevers,
      )
  fits size (SetDefault x) h = tt
  fits size ClearDefault h = tt
  fits size StrikeColumn h = above _ _ (no-refusal (asked m r (edit_of StrikeColumn) (contents_of n l)) h).0 size.columns
  fits size StrikeNever h = above _ _ (no-refusal (asked m r (edit_of StrikeNever) (contents_of n l)) h).0 size.nevers

  pub room : (k : Given V C R) → Accepted m r (edit_of k) n l → Room k n
  room k a =
      let e = told-ok (edit_answer m r n l (edit_of k)) a in
      fits (counted n l few (right (edit_of k) e)) k (all_yes (edit_of k) e).1

  module _ (k : Edit V C R) where
    -- what is left of a refused edit
    pub refused : (f : SheetFault) → Err f ≡ told (edit_answer m r n l k) → (x : Counts) → (Err f ≡ given (edit_answer m r n l k) x) × EditLeaves m r k n l n l
    refused f a x =
        let e = told-err (edit_answer m r n l k) f a in (
          sym (ap (λ o. given o x) e),
          record { counts = sym (ap (λ o. unless o (counts_after k n) n) e); lists = sym (ap (λ o. unless o (lists_after k n l) l) e); contents = sym (ap (λ o. unless o (edited k (contents_of n l)) (contents_of n l)) e) },
        )

    -- and of an accepted one
    pub accepted : Accepted m r k n l → (n' : Counts) (l' : Lists V C R) → n' ≡ counts_after k n → l' ≡ lists_after k n l
        → (Ok n' ≡ given (edit_answer m r n l k) (counts_after k n)) × (EditLeaves m r k n l n' l' × Bounded n')
    accepted a n' l' p q =
        let e = told-ok (edit_answer m r n l k) a in
        let s = stored m r n l few (right k e) k (no-refusal (asked m r k (contents_of n l)) (all_yes k e).1) in (
          ap Ok p ∙ sym (ap (λ o. given o (counts_after k n)) e),
          (
            record {
              counts = p ∙ sym (ap (λ o. unless o (counts_after k n) n) e);
              lists = q ∙ sym (ap (λ o. unless o (lists_after k n l) l) e);
              contents = ap₂ contents_of p q ∙ s.contents ∙ sym (ap (λ o. unless o (edited k (contents_of n l)) (contents_of n l)) e);
            },
            subst Bounded (sym p) s.bounded,
          ),
        )
