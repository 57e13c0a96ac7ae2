-- What the program's answer to a page says of the sheet that the page's lines make. Assumes nothing.
use Rattle.std.specs.Prelude.{◌≡◌, ℕ, ◌^◌, ◌<◌, true, false, List, map, Ok, Err}
use Rattle.house.specs.House.{Value, Cell, house}
use Rattle.items.specs.declared.Counts.{Counts}
use Rattle.results.specs.declared.figure.Figure.{Figure}
use Rattle.results.specs.Figures.{figures}
use Rattle.page_faults.specs.declared.PageRefusal.{PageRefusal}
use Rattle.tables.specs.Calls.{edit, draft, made}
use Rattle.tables.specs.Contents.{Contents}
use Rattle.tables.specs.Faultless.{Faultless}
use Rattle.tables.specs.Issued.{IssuedRightly}
use Rattle.tables.specs.Issues.{issue, answered, written}
use Rattle.tables.specs.Starts.{count}
use Rattle.tables.specs.Storage.{contents_of}
use Rattle.text.specs.Lines.{Line}
use Rattle.text.specs.Pages.{page_of}
use Rattle.text.specs.Texts.{said}
use Rattle.pages.specs.Reads.{read_page}
use Rattle.pages.specs.ThereAndBack.{calls_from}
use Rattle.pages.specs.Writes.{text_of}
use Rattle.reports.specs.Reports.{answer_text, refusal_text, issued_text, fresh_lists, fresh_encounter, report_text, is_issued}

-- A page that is right: the contents of the sheet that the calls of its lines make.
pub record SheetOf (page : List ℕ) (c : Contents Value Cell Figure) : Type 0 where
  pub lines : List Line
  pub text : page_of page ≡ Ok lines
  pub calls : made house figures (map edit (calls_from 0 0 (map said lines))) ≡ record { status = draft; contents = c }
  pub same : text_of c ≡ page

-- A page that is read to its end is answered by what issue says of its sheet, and that is right of all encounters in range.
pub record AnsweredFor (page : List ℕ) (c : Contents Value Cell Figure) : Type 0 where
  pub sheet : SheetOf page c
  pub text : report_text page ≡ answer_text c.quantities (answered (issue house figures c fresh_encounter)) (written house figures c fresh_encounter (issue house figures c fresh_encounter))
  pub rightly : IssuedRightly house figures c fresh_encounter

-- A page whose answer is `issued`, with this count: no encounter in range is a gap, a clash or an asymmetry, and not all are barred.
pub record IssuedPage (page : List ℕ) (n : ℕ) : Type 0 where
  pub contents : Contents Value Cell Figure
  pub sheet : SheetOf page contents
  pub text : report_text page ≡ issued_text n
  pub counted : n ≡ count house contents
  pub faultless : Faultless house figures contents

pub record Reported (page : List ℕ) : Type 0 where
  -- a page that is not read to its end tells why and where
  pub unread : (f : PageRefusal) → (read_page page fresh_lists).answer ≡ Err f → (report_text page ≡ refusal_text f) × (is_issued page ≡ false)
  -- one that is read is answered for its sheet
  pub read : (n : Counts) → (read_page page fresh_lists).answer ≡ Ok n → AnsweredFor page (contents_of n (read_page page fresh_lists).lists)
  -- the line `issued` is printed of a sheet without fault alone, and tells its count
  pub issued : is_issued page ≡ true → (n : ℕ) × IssuedPage page n
  pub means : (n : ℕ) → n < 2 ^ 64 → report_text page ≡ issued_text n → IssuedPage page n
