-- What is promised of reading and writing: the draft that is read is what the calls of the page's lines make, a page that
-- was read is written back byte for byte, and a page that was written reads back to the same contents. Assumes nothing.
use Rattle.std.specs.Prelude.{◌≡◌, ℕ, suc, ◌+◌, ◌≤◌, true, List, [], ◌∷◌, ◌++◌, map, length, Ok}
use Rattle.house.specs.House.{Value, Cell, house}
use Rattle.items.specs.declared.Counts.{Counts}
use Rattle.items.specs.declared.Entry.{Entry}
use Rattle.results.specs.declared.figure.Figure.{Figure}
use Rattle.results.specs.Figures.{figures}
use Rattle.tables.specs.Calls.{Edit, name_quantity, add_row, add_column, add_never, set_cell, set_default, edit, draft, made}
use Rattle.tables.specs.Contents.{Contents}
use Rattle.tables.specs.Storage.{Bounded, RightLengths, contents_of, in_order}
use Rattle.text.specs.Lines.{Line}
use Rattle.text.specs.Pages.{page_of}
use Rattle.text.specs.Texts.{Said, say_quantity, say_row, say_column, say_never, say_default, said}
use Rattle.pages.specs.NameBits.{NoBitBeyond}
use Rattle.pages.specs.Reads.{PageLists, read_page}
use Rattle.pages.specs.Writes.{text_of}

-- the entries of a column set one after the other, from row i on
abbrev pub set_cells : ℕ → ℕ → List (Entry Cell) → List (Edit Value Cell Figure)
set_cells column i [] = []
set_cells column i (x ∷ xs) = set_cell i column x ∷ set_cells column (suc i) xs

-- the draft calls that lines ask for, after so many columns and nevers
abbrev pub calls_from : ℕ → ℕ → List Said → List (Edit Value Cell Figure)
calls_from columns nevers [] = []
calls_from columns nevers (say_quantity q ∷ xs) = name_quantity q ∷ calls_from columns nevers xs
calls_from columns nevers (say_row w ∷ xs) = add_row w ∷ calls_from columns nevers xs
calls_from columns nevers (say_column x es ∷ xs) = (add_column x ∷ set_cells columns 0 es) ++ calls_from (suc columns) nevers xs
calls_from columns nevers (say_never es ∷ xs) = (add_never ∷ set_cells (16 + nevers) 0 es) ++ calls_from columns (suc nevers) xs
calls_from columns nevers (say_default x ∷ xs) = set_default x ∷ calls_from columns nevers xs

-- An accepted page: its lines are right in their text, the draft is what the calls of its lines make from open on, the
-- lists are in order, and the sheet's page is this one, byte for byte.
pub record Accepted (page : List ℕ) (n : Counts) (l : PageLists) : Type 0 where
  pub lines : List Line
  pub text : page_of page ≡ Ok lines
  pub calls : made house figures (map edit (calls_from 0 0 (map said lines))) ≡ record { status = draft; contents = contents_of n l }
  pub bounded : Bounded n
  pub lengths : RightLengths l
  pub ordered : in_order house figures n l ≡ true
  pub same : text_of (contents_of n l) ≡ page

-- what was read is written back
abbrev pub ReadRightly : List ℕ → PageLists → Type 0
ReadRightly page l = (n : Counts) → (read_page page l).answer ≡ Ok n → Accepted page n (read_page page l).lists

-- What was written reads back, whatever lists of right length it is read into.
pub record ReadsBack (c : Contents Value Cell Figure) (l : PageLists) : Type 0 where
  pub counts : Counts
  pub accepted : (read_page (text_of c) l).answer ≡ Ok counts
  pub contents : contents_of counts (read_page (text_of c) l).lists ≡ c

-- The page of a sheet whose lists are in order is short enough to be read, and reads back.
pub record WrittenRightly (n : Counts) (l : PageLists) : Type 0 where
  pub short : length (text_of (contents_of n l)) ≤ 65536
  pub back : (into : PageLists) → RightLengths into → ReadsBack (contents_of n l) into

-- both ways, for every page and every sheet that a program can hold
pub record ThereAndBack : Type 0 where
  pub reading : (page : List ℕ) (l : PageLists) → ReadRightly page l
  pub writing : (n : Counts) (l : PageLists) → Bounded n → in_order house figures n l ≡ true → NoBitBeyond (contents_of n l) → WrittenRightly n l
