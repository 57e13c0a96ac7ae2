-- One line of a page: its first word, and its calls. Assumes nothing.
use Rattle.std.proofs.Common.{◌≡◌, ℕ, ◌+◌, List, [], Some, None, Ok, Err, Option, Result, sym, refl, ap, ◌∙◌, ap₂, arith}
use Rattle.std.specs.Option.{ok_or}
use Rattle.items.specs.declared.Counts.{Counts}
use Rattle.page_faults.specs.declared.LineFault.{LineFault}
use Rattle.page_faults.specs.declared.PageFault.{PageFault}
use Rattle.text.specs.Forms.{onward, rest, rest_at}
use Rattle.text.specs.Lines.{Line, line_of}
use Rattle.text.specs.Pages.{Refused, head, in_line, line_at, word_at}
use Rattle.text.specs.Words.{first_word}
use Rattle.text.specs.declared.types.Section.{Section}
use Rattle.text.specs.declared.types.Word.{Word}
use Rattle.pages.specs.Reads.{Went, PageLists, after_calls, after_line, read_lines}
use Rattle.calling.specs.Goes.{follows, line_goes}
use Rattle.reading.specs.Lines.{read_on, word_or}

-- what there is where nothing is told
pub there : {X E : Type 0} (o : Option X) (e : E) (x : X) → ok_or o e ≡ Ok x → o ≡ Some x
there (Some y) e x h = let i : y ≡ x = cc in ap Some i
there None e x h = let z : ◌≡◌ {A = ℕ} 0 1 = cc in absurd (omega arith)

module _ (t : Section) (w : Word) (n n' : Counts) (l l' : PageLists) (k : ℕ) (lines : List (List ℕ)) where
  calls-of : (x : Result Line ℕ) → after_line k (onward (in_line k x) (λ y. Ok (y, w, t))) n l (λ t. read_lines t (k + 1) lines) ≡ after_calls k (line_goes x n l).answer (line_goes x n l).lists (read_lines t (k + 1) lines)
  calls-of (Ok line) = refl
  calls-of (Err byte) = refl

  made : (r : Result (Unit {0}) LineFault) → after_calls k (follows r n' l' []).answer (follows r n' l' []).lists (read_lines t (k + 1) lines) ≡ read_on k (onward r (λ u. Ok t)) n' l' lines
  made (Ok u) = refl
  made (Err f) = refl

  -- a line whose word may stand there goes as its calls go: `fs` are its fields, and `gs` those after the word, from byte `b`
  pub line-read : (s : Section) (e : PageFault) (o : Option (Word × Section)) (fs gs : List (List ℕ)) (b : ℕ) (r : Result (Unit {0}) LineFault) → word_at s k (first_word (head fs)) ≡ word_or k o → ok_or o e ≡ Ok (w, t)
      → b ≡ rest_at 1 fs → gs ≡ rest fs → line_goes (line_of w n.rows b gs) n l ≡ follows r n' l' []
      → after_line k (line_at s n.rows k fs) n l (λ t. read_lines t (k + 1) lines) ≡ read_on k (onward r (λ u. Ok t)) n' l' lines
  line-read s e o fs gs b r word is at after went =
      let stands : word_at s k (first_word (head fs)) ≡ Ok (w, t) = word ∙ ap (word_or k) (there o e (w, t) is) in
      ap (λ (p : Result (Word × Section) Refused). after_line k (onward p (λ p. onward (in_line k (line_of p.0 n.rows (rest_at 1 fs) (rest fs))) (λ y. Ok (y, p.0, p.1)))) n l (λ t. read_lines t (k + 1) lines)) stands
      ∙ calls-of (line_of w n.rows (rest_at 1 fs) (rest fs))
      ∙ ap (λ (m : Went LineFault). after_calls k m.answer m.lists (read_lines t (k + 1) lines)) (ap₂ (λ b gs. line_goes (line_of w n.rows b gs) n l) (sym at) (sym after) ∙ went)
      ∙ made r
