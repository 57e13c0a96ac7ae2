-- What the program's answer says of a page's sheet. Assumes nothing.
use Rattle.std.proofs.Common.{◌≡◌, ℕ, ◌^◌, ◌<◌, true, List, [], ◌∷◌, ◌++◌, get_or, is_ok, Ok, Err, decimal, Result, sym, refl, ap, ◌∙◌, ap₂, arith}
use Rattle.std.proofs.lemmas.Fmt.{decimal_injective}
use Rattle.std.proofs.lemmas.List.{append_cancel_left, append_cancel_right}
use Rattle.std.proofs.lemmas.Bool.{cond-true, false≢true}
use Rattle.house.specs.House.{Value, Cell, house}
use Rattle.items.specs.declared.Counts.{Counts}
use Rattle.results.specs.declared.figure.Figure.{Figure}
use Rattle.results.specs.Figures.{figures}
use Rattle.faults.specs.declared.SheetFault.TheVariants.{Lists as WrongLists}
use Rattle.page_faults.specs.declared.PageRefusal.{PageRefusal}
use Rattle.tables.specs.Contents.{Contents, Encounter}
use Rattle.tables.specs.Issued.{Says, IssuedRightly}
use Rattle.tables.specs.Issues.{Issue, short_lists, too_many, all_barred, shown_gap, shown_clash, shown_asymmetry, accepted, issue, answered, written}
use Rattle.tables.specs.Storage.{contents_of, in_order}
use Rattle.pages.specs.Reads.{read_page}
use Rattle.pages.proofs.BothWays.{read-rightly}
use Rattle.reports.specs.Reports.{answer_text, issued_text, went_text, went_issued, fresh_lists, fresh_encounter, report_text, is_issued}
use Rattle.reports.specs.Meant.{SheetOf, AnsweredFor, IssuedPage, Reported}

-- a line that begins with another letter
other-letter : (xs ys : List ℕ) → 114 ∷ xs ≡ 105 ∷ ys → ⊥
other-letter xs ys e = let z : ◌≡◌ {A = ℕ} 114 105 = ap (λ bs. get_or bs 0 0) e in omega arith

same_count : (k n : ℕ) → k < 2 ^ 64 → n < 2 ^ 64 → issued_text k ≡ issued_text n → k ≡ n
same_count k n a b e =
    decimal_injective k n a b (append_cancel_right (decimal k) (decimal n) (10 ∷ []) (append_cancel_left (105 ∷ 115 ∷ 115 ∷ 117 ∷ 101 ∷ 100 ∷ 32 ∷ []) (decimal k ++ (10 ∷ [])) (decimal n ++ (10 ∷ [])) e))

module _ (page : List ℕ) (c : Contents Value Cell Figure) (sheet : SheetOf page c) where
  -- by what issue finds of the sheet
  issued-by : (i : Issue Value) (e : Encounter Value) → report_text page ≡ answer_text c.quantities (answered i) e → Says house figures c fresh_encounter i → is_ok (answered i) ≡ true → (n : ℕ) × IssuedPage page n
  issued-by short_lists e t s o = let z : ◌≡◌ {A = ℕ} 0 1 = cc in absurd (omega arith)
  issued-by too_many e t s o = let z : ◌≡◌ {A = ℕ} 0 1 = cc in absurd (omega arith)
  issued-by all_barred e t s o = let z : ◌≡◌ {A = ℕ} 0 1 = cc in absurd (omega arith)
  issued-by (shown_gap x) e t s o = let z : ◌≡◌ {A = ℕ} 0 1 = cc in absurd (omega arith)
  issued-by (shown_clash x i j) e t s o = let z : ◌≡◌ {A = ℕ} 0 1 = cc in absurd (omega arith)
  issued-by (shown_asymmetry x) e t s o = let z : ◌≡◌ {A = ℕ} 0 1 = cc in absurd (omega arith)
  issued-by (accepted n) e t s o = (n, record { contents = c; sheet = sheet; text = t; counted = s.1; faultless = s.2 })

  means-by : (i : Issue Value) (e : Encounter Value) → report_text page ≡ answer_text c.quantities (answered i) e → Says house figures c fresh_encounter i → (n : ℕ) → n < 2 ^ 64 → report_text page ≡ issued_text n → IssuedPage page n
  means-by short_lists e t s n h p = absurd (other-letter _ _ (sym t ∙ p))
  means-by too_many e t s n h p = absurd (other-letter _ _ (sym t ∙ p))
  means-by all_barred e t s n h p = absurd (other-letter _ _ (sym t ∙ p))
  means-by (shown_gap x) e t s n h p = absurd (other-letter _ _ (sym t ∙ p))
  means-by (shown_clash x i j) e t s n h p = absurd (other-letter _ _ (sym t ∙ p))
  means-by (shown_asymmetry x) e t s n h p = absurd (other-letter _ _ (sym t ∙ p))
  means-by (accepted k) e t s n h p =
      let few : k < 2 ^ 64 = omega (arith, s.0.few, s.1) in
      record { contents = c; sheet = sheet; text = p; counted = sym (same_count k n few h (sym t ∙ p)) ∙ s.1; faultless = s.2 }

module _ (page : List ℕ) where
  -- what issue says of the sheet is right
  abbrev pub IssuesRightly : Type 0
  IssuesRightly = (n : Counts) → (read_page page fresh_lists).answer ≡ Ok n → IssuedRightly house figures (contents_of n (read_page page fresh_lists).lists) fresh_encounter

  module _ (right : IssuesRightly) where
    read-answered : (n : Counts) → (read_page page fresh_lists).answer ≡ Ok n → AnsweredFor page (contents_of n (read_page page fresh_lists).lists)
    read-answered n e =
        let l = (read_page page fresh_lists).lists in
        let c = contents_of n l in
        let a = read-rightly page fresh_lists n e in
        let i = issue house figures c fresh_encounter in
        record {
          sheet = record { lines = a.lines; text = a.text; calls = a.calls; same = a.same };
          text = ap (went_text l fresh_encounter) e
              ∙ ap₂ (answer_text c.quantities) (cond-true (in_order house figures n l) (answered i) (Err WrongLists) a.ordered) (cond-true (in_order house figures n l) (written house figures c fresh_encounter i) fresh_encounter a.ordered);
          rightly = right n e;
        }

    issued-from : (r : Result Counts PageRefusal) → (read_page page fresh_lists).answer ≡ r → is_issued page ≡ true → (n : ℕ) × IssuedPage page n
    issued-from (Ok n) e t =
        let l = (read_page page fresh_lists).lists in
        let c = contents_of n l in
        let a = read-answered n e in
        let i = issue house figures c fresh_encounter in
        let o = ap is_ok (cond-true (in_order house figures n l) (answered i) (Err WrongLists) (read-rightly page fresh_lists n e).ordered) in
        issued-by page c a.sheet i (written house figures c fresh_encounter i) a.text a.rightly.says (sym o ∙ sym (ap (went_issued l fresh_encounter) e) ∙ t)
    issued-from (Err f) e t = absurd (false≢true (sym (ap (went_issued (read_page page fresh_lists).lists fresh_encounter) e) ∙ t))

    means-from : (r : Result Counts PageRefusal) → (read_page page fresh_lists).answer ≡ r → (n : ℕ) → n < 2 ^ 64 → report_text page ≡ issued_text n → IssuedPage page n
    means-from (Ok n) e k h t =
        let c = contents_of n (read_page page fresh_lists).lists in
        let a = read-answered n e in
        let i = issue house figures c fresh_encounter in
        means-by page c a.sheet i (written house figures c fresh_encounter i) a.text a.rightly.says k h t
    means-from (Err f) e k h t = absurd (other-letter _ _ (sym (ap (went_text (read_page page fresh_lists).lists fresh_encounter) e) ∙ t))

    pub reported : Reported page
    reported = record {
      unread = λ f e. (ap (went_text (read_page page fresh_lists).lists fresh_encounter) e, ap (went_issued (read_page page fresh_lists).lists fresh_encounter) e);
      read = read-answered;
      issued = issued-from (read_page page fresh_lists).answer refl;
      means = means-from (read_page page fresh_lists).answer refl;
    }
