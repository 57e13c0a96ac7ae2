-- A page that was read, and what is told of it. Assumes nothing.
use Rattle.std.proofs.Common.{◌≡◌, ℕ, true, List, IfOk, Ok, Result, pos, refl, subst, ap₂}
use Rattle.house.specs.House.{Value, house}
use Rattle.items.specs.declared.Counts.{Counts}
use Rattle.results.specs.Figures.{figures}
use Rattle.page_faults.specs.declared.PageRefusal.{PageRefusal}
use Rattle.tables.specs.Contents.{Encounter}
use Rattle.tables.specs.Issued.{IssuedRightly}
use Rattle.tables.specs.Storage.{contents_of, in_order}
use Rattle.memory.specs.Memory.{blank_lists, blank_encounter}
use Rattle.pages.specs.Reads.{PageLists, Went, read_page}
use Rattle.pages.specs.ThereAndBack.{ReadRightly}
use Rattle.reports.specs.Reports.{went_text, went_issued, report_on, issued_on, fresh_lists, fresh_values, fresh_encounter, no_value, report_text, is_issued}
use Rattle.reports.specs.Meant.{Reported}
use Rattle.reports.proofs.Meaning.{reported}
use Rattle.page.specs.Telling.{Tells}
use Rattle.page.specs.declared.told.Report.{Report}

module _ (page : List ℕ) (l l' : PageLists) (e : Encounter Value) (n : Counts) (read : Ok n ≡ (read_page page l).answer) (left : l' ≡ (read_page page l).lists) where
  went : record { answer = Ok n; lists = l' } ≡ read_page page l
  went = ap₂ (λ r k. record { answer = r; lists = k }) read left

  pub told_of : {E : Type 0} (r : Result Report E) → IfOk r (Tells (went_text l' e (Ok n)) (went_issued l' e (Ok n))) → IfOk r (Tells (report_on page l e) (issued_on page l e))
  told_of r h = let P : Went PageRefusal → Type 0 = λ w. IfOk r (Tells (went_text w.lists e w.answer) (went_issued w.lists e w.answer)) in subst P went h

  -- what issue says of the sheet that was read is right
  pub rightly-of : ReadRightly page l → (in_order house figures n l' ≡ true → IssuedRightly house figures (contents_of n l') e) → (m : Counts) → (read_page page l).answer ≡ Ok m → IssuedRightly house figures (contents_of m (read_page page l).lists) e
  rightly-of rightly h m is =
      let P : Counts → PageLists → Type 0 = λ m k. in_order house figures m k ≡ true → IssuedRightly house figures (contents_of m k) e in
      let same : n ≡ m = cc in
      subst (P m) left (subst (λ k. P k l') same h) (rightly m is).ordered

-- the lists and the encounter that the program starts with
pub fresh-lists : blank_lists no_value (record { value = pos 0 }) ≡ fresh_lists
unfolding fresh_lists
fresh-lists = refl

pub fresh-encounter : blank_encounter no_value ≡ fresh_encounter
unfolding fresh_values
fresh-encounter = refl

module _ (page : List ℕ) (l : PageLists) (e : Encounter Value) (p : l ≡ fresh_lists) (q : e ≡ fresh_encounter) where
  pub told_fresh : {E : Type 0} (r : Result Report E) → IfOk r (Tells (report_on page l e) (issued_on page l e)) → IfOk r (Tells (report_text page) (is_issued page))
  told_fresh r h = let P : PageLists → Encounter Value → Type 0 = λ l e. IfOk r (Tells (report_on page l e) (issued_on page l e)) in subst (P fresh_lists) q (subst (λ l. P l e) p h)

  pub reported-fresh : ((n : Counts) → (read_page page l).answer ≡ Ok n → IssuedRightly house figures (contents_of n (read_page page l).lists) e) → Reported page
  reported-fresh h =
      let P : PageLists → Encounter Value → Type 0 = λ l e. (n : Counts) → (read_page page l).answer ≡ Ok n → IssuedRightly house figures (contents_of n (read_page page l).lists) e in
      reported page (subst (P fresh_lists) q (subst (λ l. P l e) p h))
