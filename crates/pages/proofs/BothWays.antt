-- A page that was read is written back byte for byte, and one that was written reads back. Assumes nothing.
use Rattle.std.proofs.Common.{◌≡◌, ℕ, ◌≤◌, Bool, true, false, cond, leb, List, [], ◌∷◌, map, length, Ok, sym, refl, ap, ◌∙◌, subst, arith}
use Rattle.std.proofs.lemmas.Bool.{cond-true}
use Rattle.house.specs.House.{house}
use Rattle.items.specs.declared.Counts.{Counts}
use Rattle.results.specs.Figures.{figures}
use Rattle.faults.specs.declared.SheetFault.TheVariants.{Lists as WrongLists}
use Rattle.page_faults.specs.declared.PageFault.{PageFault}
use Rattle.page_faults.specs.declared.PageFault.TheVariants.{TooLong, NotEnded, Call as Denied}
use Rattle.page_faults.specs.declared.PageRefusal.{PageRefusal}
use Rattle.tables.specs.Acceptance.{Acceptable}
use Rattle.tables.specs.Calls.{empty}
use Rattle.tables.specs.Edits.{draft_of}
use Rattle.tables.specs.Storage.{Bounded, RightLengths, contents_of, in_order}
use Rattle.tables.proofs.Running.{empty-acceptable}
use Rattle.tables.proofs.Testing.{in_order_lem}
use Rattle.text.specs.Pages.{closed, before, page_of, too_long, not_closed}
use Rattle.text.specs.Texts.{Said, said, located, page_text}
use Rattle.text.specs.declared.types.Section.TheVariants.{Quantities}
use Rattle.text.proofs.LineTexts.{text-faithful}
use Rattle.text.proofs.PageTexts.{under-err}
use Rattle.pages.specs.NameBits.{NoBitBeyond}
use Rattle.pages.specs.Reads.{PageLists, Went, no_counts, read_lines, read_page, refused_at_once}
use Rattle.pages.specs.Writes.{lines_of, text_of}
use Rattle.pages.specs.ThereAndBack.{calls_from, ReadRightly, ReadsBack, WrittenRightly, ThereAndBack}
use Rattle.pages.proofs.Agreeing.{PageContents, Held, held-ordered, run-agreed}
use Rattle.pages.proofs.Making.{lines-way}
use Rattle.pages.proofs.Orderly.{lines-ordered, lines-few}
use Rattle.pages.proofs.ReadLines.{lines-read, way-read}
use Rattle.pages.proofs.Sections.{Clear, way-lines}
use Rattle.pages.proofs.Ways.{Way, way-calls}

-- what was accepted under a test
under : (t : Bool) (w : Went PageRefusal) (f : PageFault) (l : PageLists) (n : Counts) → (cond t w (refused_at_once f l)).answer ≡ Ok n → t ≡ true
under true w f l n e = refl
under false w f l n e = let z : ◌≡◌ {A = ℕ} 0 1 = cc in absurd (omega arith)

empty-held : (l : PageLists) → RightLengths l → Held no_counts l empty
empty-held l s = record {
  bounded = record { quantities = omega arith; rows = omega arith; columns = omega arith; nevers = omega arith };
  lengths = s;
  contents = refl;
  acceptable = empty-acceptable house figures;
}

empty-clear : Clear Quantities empty
empty-clear = record { rows = λ _. refl; columns = λ _. refl; nevers = λ _. refl; default = λ _. refl }

module _ (page : List ℕ) (l : PageLists) where
  -- a page whose lines are read
  opens : in_order house figures no_counts l ≡ true → leb (length page) 65536 ≡ true → closed page ≡ true → read_page page l ≡ read_lines Quantities 1 (before page) no_counts l
  opens a b d = cond-true _ _ _ a ∙ cond-true _ _ _ b ∙ cond-true _ _ _ d

  pub read-rightly : ReadRightly page l
  read-rightly n e =
      let a = under (in_order house figures no_counts l) _ (Denied WrongLists) l n e in
      let p = ap (λ w. w.answer) (cond-true (in_order house figures no_counts l) _ (refused_at_once (Denied WrongLists) l) a) in
      let b = under (leb (length page) 65536) _ TooLong l n (sym p ∙ e) in
      let q = ap (λ w. w.answer) (cond-true (leb (length page) 65536) _ (refused_at_once TooLong l) b) in
      let d = under (closed page) _ NotEnded l n (sym q ∙ (sym p ∙ e)) in
      let o = opens a b d in
      let r = lines-read Quantities 1 (before page) no_counts l empty n (empty-held l ((in_order_lem house figures no_counts l).0 a).0) (sym (ap (λ w. w.answer) o) ∙ e) in
      let h : Held n (read_page page l).lists r.contents = subst (λ w. Held n w.lists r.contents) (sym o) r.held in
      let t : page_of page ≡ Ok r.lines = cond-true _ _ _ b ∙ cond-true _ _ _ d ∙ r.text in
      let s = text-faithful.pages.same page r.lines t in
      let w = way-calls empty r.contents (map said r.lines) r.way in
      record {
        lines = r.lines;
        text = t;
        calls = run-agreed (calls_from 0 0 (map said r.lines)) empty w.0 ∙ ap draft_of (w.1 ∙ sym h.contents);
        bounded = h.bounded;
        lengths = h.lengths;
        ordered = held-ordered h;
        same = ap text_of h.contents ∙ ap page_text (way-lines Quantities 0 (map said r.lines) empty r.contents s.0 empty-clear r.way) ∙ s.1;
      }

said-located : (xs : List Said) → map said (map located xs) ≡ xs
said-located [] = refl
said-located (x ∷ xs) = ap (λ y. y ∷ map said (map located xs)) (text-faithful.line.bare _ x) ∙ ap (λ ys. x ∷ ys) (said-located xs)

module _ (c : PageContents) (ok : Acceptable house figures c) (only : NoBitBeyond c) where
  text-short : length (text_of c) ≤ 65536
  text-short = let a = text-faithful.short.page Quantities 0 (lines_of c) (lines-ordered c ok only) in let b = lines-few c ok in omega arith

  reads-back : (l : PageLists) → RightLengths l → ReadsBack c l
  reads-back l s =
      let page = text_of c in
      let h = empty-held l s in
      let t = text-faithful.pages.back (lines_of c) (lines-ordered c ok only) text-short in
      let a = under-err (leb (length page) 65536) _ too_long (map located (lines_of c)) t in
      let b = under-err (closed page) _ not_closed (map located (lines_of c)) a.1 in
      let o = opens page l (held-ordered h) a.0 b.0 in
      let w = subst (λ xs. Way empty xs c) (sym (said-located (lines_of c))) (lines-way c ok) in
      let r = way-read Quantities 1 (before page) (map located (lines_of c)) no_counts l empty c h b.1 w in
      record {
        counts = r.0;
        accepted = ap (λ w. w.answer) o ∙ r.1;
        contents = ap (λ w. contents_of r.0 w.lists) o ∙ r.2.contents;
      }

pub written-rightly : (n : Counts) (l : PageLists) → Bounded n → in_order house figures n l ≡ true → NoBitBeyond (contents_of n l) → WrittenRightly n l
written-rightly n l b e only =
    let ok = ((in_order_lem house figures n l).0 e).1 in
    record { short = text-short (contents_of n l) ok only; back = reads-back (contents_of n l) ok only }

pub there_and_back : ThereAndBack
there_and_back = record { reading = read-rightly; writing = written-rightly }
