-- Reading lines: an accepted page is right in its text and makes a way, and a way that is right in its text is read. Assumes nothing.
use Rattle.std.proofs.Common.{◌≡◌, ℕ, ◌+◌, List, [], ◌∷◌, map, length, Ok, Err, Result, sym, refl, ap, ◌∙◌, subst, ap₂, arith, length-append}
use Rattle.items.specs.declared.Counts.{Counts}
use Rattle.items.specs.declared.Scope.{Scope}
use Rattle.items.specs.declared.Scope.TheVariants.{Flight, Pair}
use Rattle.page_faults.specs.declared.LineFault.{LineFault}
use Rattle.page_faults.specs.declared.PageRefusal.{PageRefusal}
use Rattle.text.specs.Fields.{parted}
use Rattle.text.specs.Forms.{onward}
use Rattle.text.specs.Lines.{Line, rows_after}
use Rattle.text.specs.Pages.{Refused, line_at, lines_of as text_lines}
use Rattle.text.specs.Texts.{Said, say_quantity, say_row, say_column, say_never, say_default, said, scope_word, word_of, LineRight}
use Rattle.text.specs.declared.types.Word.{Word}
use Rattle.text.specs.declared.types.Section.{Section}
use Rattle.text.proofs.LineTexts.{ok_same, onward-ok, line_at-same}
use Rattle.pages.specs.Reads.{PageLists, Went, calls_of, make_all, after_calls, after_line, read_lines}
use Rattle.pages.proofs.Agreeing.{PageContents, AllAgreed, edited_by, Held, held_rows, all_made, make-agreed}
use Rattle.pages.proofs.LineCalls.{line_edits, line-calls, added, right-even}
use Rattle.pages.proofs.Ways.{Taken, taken, Way}

-- how many rows there are after a line
scope-rows : (s : Scope) (n : ℕ) → rows_after (scope_word s) n ≡ n
scope-rows Flight n = refl
scope-rows Pair n = refl

added-rows : (x : Said) (c : PageContents) → length (added x c).rows ≡ rows_after (word_of x) (length c.rows)
added-rows (say_quantity q) c = sym (scope-rows q.scope (length c.rows))
added-rows (say_row w) c = length-append c.rows (w ∷ [])
added-rows (say_column x es) c = refl
added-rows (say_never es) c = refl
added-rows (say_default x) c = refl

module _ {n : Counts} {l : PageLists} {c : PageContents} (h : Held n l c) (x : Line) where
  -- the calls of a line that were all made
  line-agreed : (m : Counts) → (make_all (calls_of n x) n l).answer ≡ Ok m → AllAgreed (line_edits c (said x)) c
  line-agreed m e = subst (λ ks. AllAgreed ks c) (line-calls h x) (all_made (calls_of n x) n l c m h e).0

  line-held : (m : Counts) → (make_all (calls_of n x) n l).answer ≡ Ok m → Taken c (said x) → Held m (make_all (calls_of n x) n l).lists (added (said x) c)
  line-held m e t = subst (Held m (make_all (calls_of n x) n l).lists) (ap (λ k. edited_by k c) (line-calls h x) ∙ t.1) (all_made (calls_of n x) n l c m h e).1

  -- and so many rows there are then
  line-rows : (m : Counts) (k : PageLists) (w : Word) → word_of (said x) ≡ w → Held m k (added (said x) c) → rows_after w n.rows ≡ m.rows
  line-rows m k w e g = ap₂ rows_after (sym e) (held_rows h) ∙ sym (held_rows g ∙ added-rows (said x) c)

calls-made : (k : ℕ) (a : Result Counts LineFault) (l : PageLists) (next : Counts → PageLists → Went PageRefusal) (m : Counts) → (after_calls k a l next).answer ≡ Ok m
    → (n : Counts) × (a ≡ Ok n) × (after_calls k a l next ≡ next n l)
calls-made k (Ok n) l next m e = (n, refl, refl)
calls-made k (Err f) l next m e = let z : ◌≡◌ {A = ℕ} 0 1 = cc in absurd (omega arith)

pub record LineMade (k : ℕ) (r : Result (Line × Word × Section) Refused) (n : Counts) (l : PageLists) (next : Section → Counts → PageLists → Went PageRefusal) : Type 0 where
  pub line : Line
  pub word : Word
  pub section : Section
  pub after : Counts
  pub text : r ≡ Ok (line, word, section)
  pub calls : (make_all (calls_of n line) n l).answer ≡ Ok after
  pub goes : after_line k r n l next ≡ next section after (make_all (calls_of n line) n l).lists

line_read : (k : ℕ) (r : Result (Line × Word × Section) Refused) (n : Counts) (l : PageLists) (next : Section → Counts → PageLists → Went PageRefusal) (m : Counts) → (after_line k r n l next).answer ≡ Ok m → LineMade k r n l next
line_read k (Ok p) n l next m e =
    let a = calls-made k (make_all (calls_of n p.0) n l).answer (make_all (calls_of n p.0) n l).lists (next p.2) m e in
    record { line = p.0; word = p.1; section = p.2; after = a.0; text = refl; calls = a.1; goes = a.2 }
line_read k (Err f) n l next m e = let z : ◌≡◌ {A = ℕ} 0 1 = cc in absurd (omega arith)

-- lines that were read
pub record LinesRead (s : Section) (k : ℕ) (ls : List (List ℕ)) (n : Counts) (l : PageLists) (c : PageContents) (m : Counts) : Type 0 where
  pub lines : List Line
  pub contents : PageContents
  pub text : text_lines s n.rows k ls ≡ Ok lines
  pub way : Way c (map said lines) contents
  pub held : Held m (read_lines s k ls n l).lists contents

pub lines-read : (s : Section) (k : ℕ) (ls : List (List ℕ)) (n : Counts) (l : PageLists) (c : PageContents) (m : Counts) → Held n l c → (read_lines s k ls n l).answer ≡ Ok m → LinesRead s k ls n l c m
lines-read s k [] n l c m h e = record { lines = []; contents = c; text = refl; way = refl; held = subst (λ v. Held v l c) (ok_same n m e) h }
lines-read s k (line ∷ ls) n l c m h e =
    let next : Section → Counts → PageLists → Went PageRefusal = λ t. read_lines t (k + 1) ls in
    let a = line_read k (line_at s n.rows k (parted 32 line)) n l next m e in
    let x = a.line in
    let o = line_at-same s n.rows k (parted 32 line) (x, a.word, a.section) a.text in
    let after = (make_all (calls_of n x) n l).lists in
    let t = taken c (said x) (right-even (length c.rows) (said x) (subst (λ i. LineRight i (said x)) (held_rows h) o.2)) (line-agreed h x a.after a.calls) in
    let g = line-held h x a.after a.calls t in
    let r = lines-read a.section (k + 1) ls a.after after (added (said x) c) m g (sym (ap (λ w. w.answer) a.goes) ∙ e) in
    record {
      lines = x ∷ r.lines;
      contents = r.contents;
      text = ap (λ t. onward t (λ p. onward (text_lines p.2 (rows_after p.1 n.rows) (k + 1) ls) (λ rest. Ok (p.0 ∷ rest)))) a.text
          ∙ ap (λ i. onward (text_lines a.section i (k + 1) ls) (λ rest. Ok (x ∷ rest))) (line-rows h x a.after after a.word o.1 g)
          ∙ ap (λ t. onward t (λ rest. Ok (x ∷ rest))) r.text;
      way = (t, r.way);
      held = subst (λ w. Held m w.lists r.contents) (sym a.goes) r.held;
    }

-- a way of lines that are right in their text
pub way-read : (s : Section) (k : ℕ) (ls : List (List ℕ)) (ys : List Line) (n : Counts) (l : PageLists) (c d : PageContents) → Held n l c → text_lines s n.rows k ls ≡ Ok ys → Way c (map said ys) d
    → (m : Counts) × ((read_lines s k ls n l).answer ≡ Ok m) × Held m (read_lines s k ls n l).lists d
way-read s k [] ys n l c d h e w = (n, refl, subst (Held n l) (subst (λ zs. Way c (map said zs) d) (sym (ok_same [] ys e)) w) h)
way-read s k (line ∷ ls) ys n l c d h e w =
    let a = onward-ok (line_at s n.rows k (parted 32 line)) _ ys e in
    let p = a.0 in
    let x = p.0 in
    let b = onward-ok (text_lines p.2 (rows_after p.1 n.rows) (k + 1) ls) _ ys a.2 in
    let v : Way c (said x ∷ map said b.0) d = subst (λ zs. Way c (map said zs) d) (sym (ok_same (x ∷ b.0) ys b.2)) w in
    let o = line_at-same s n.rows k (parted 32 line) p a.1 in
    let q = make-agreed (calls_of n x) n l c h (subst (λ ks. AllAgreed ks c) (sym (line-calls h x)) v.0.0) in
    let after = (make_all (calls_of n x) n l).lists in
    let g = line-held h x q.0 q.1 v.0 in
    let t : text_lines p.2 q.0.rows (k + 1) ls ≡ Ok b.0 = subst (λ i. text_lines p.2 i (k + 1) ls ≡ Ok b.0) (line-rows h x q.0 after p.1 o.1 g) b.1 in
    let r = way-read p.2 (k + 1) ls b.0 q.0 after (added (said x) c) d g t v.1 in
    let next : Section → Counts → PageLists → Went PageRefusal = λ t. read_lines t (k + 1) ls in
    let goes : read_lines s k (line ∷ ls) n l ≡ read_lines p.2 (k + 1) ls q.0 after = ap (λ t. after_line k t n l next) a.1 ∙ ap (λ t. after_calls k t after (next p.2)) q.1 in
    subst (λ z. (m : Counts) × (z.answer ≡ Ok m) × Held m z.lists d) (sym goes) r
