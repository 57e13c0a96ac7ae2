-- Lines in the order of a page: what they add to the contents is what these then say. Assumes nothing.
use Rattle.std.proofs.Common.{◌≡◌, ℕ, ◌<◌, ◌≤◌, ◌&&◌, ltb, leb, List, [], ◌∷◌, ◌++◌, map, Some, None, sym, refl, ap, ◌∙◌, append_assoc, append-nil, arith}
use Rattle.std.proofs.lemmas.List.{map-append}
use Rattle.std.proofs.lemmas.Bool.{and_parts, leb-true, ltb-true}
use Rattle.items.specs.declared.Scope.{Scope}
use Rattle.items.specs.declared.Scope.TheVariants.{Flight, Pair}
use Rattle.text.specs.Lines.{rows_after}
use Rattle.text.specs.Texts.{Said, say_quantity, say_row, say_column, say_never, say_default, scope_word, word_of, Ordered}
use Rattle.text.specs.Words.{rank, place, section_of, allowed}
use Rattle.text.specs.declared.types.Word.{Word}
use Rattle.text.specs.declared.types.Section.{Section}
use Rattle.text.proofs.FieldTexts.{some-under}
use Rattle.pages.specs.Writes.{lines_of}
use Rattle.pages.proofs.Agreeing.{PageContents}
use Rattle.pages.proofs.LineCalls.{added}
use Rattle.pages.proofs.Ways.{Way}

-- nothing yet of the sections after this one
pub record Clear (s : Section) (c : PageContents) : Type 0 where
  pub rows : rank s < 1 → c.rows ≡ []
  pub columns : rank s < 2 → c.columns ≡ []
  pub nevers : rank s < 3 → c.nevers ≡ []
  pub default : rank s < 5 → c.default ≡ None

-- quantities of either scope come first
pub scope-place : (s : Scope) → place (scope_word s) ≡ 0
scope-place Flight = refl
scope-place Pair = refl

pub scope-rank : (s : Scope) → rank (section_of (scope_word s)) ≡ 0
scope-rank Flight = refl
scope-rank Pair = refl

-- a line is put behind the others
pub added-lines : (s : Section) (x : Said) (c : PageContents) → rank s ≤ place (word_of x) → Clear s c → lines_of (added x c) ≡ lines_of c ++ (x ∷ [])
added-lines s (say_quantity q) c h k =
    let p = scope-place q.scope in
    let a = k.rows (omega arith) in let b = k.columns (omega arith) in let d = k.nevers (omega arith) in let e = k.default (omega arith) in
    simp (a, b, d, e, map-append, append_assoc, append-nil)
added-lines s (say_row w) c h k =
    let b = k.columns (omega arith) in let d = k.nevers (omega arith) in let e = k.default (omega arith) in
    simp (b, d, e, map-append, append_assoc, append-nil)
added-lines s (say_column x es) c h k =
    let d = k.nevers (omega arith) in let e = k.default (omega arith) in
    simp (d, e, map-append, append_assoc, append-nil)
added-lines s (say_never es) c h k =
    let e = k.default (omega arith) in
    simp (e, map-append, append_assoc, append-nil)
added-lines s (say_default x) c h k =
    let e = k.default (omega arith) in
    simp (e, append_assoc, append-nil)

added-clear : (s : Section) (x : Said) (c : PageContents) → rank s ≤ place (word_of x) → Clear s c → Clear (section_of (word_of x)) (added x c)
added-clear s (say_quantity q) c h k =
    let p = scope-place q.scope in
    record { rows = λ _. k.rows (omega arith); columns = λ _. k.columns (omega arith); nevers = λ _. k.nevers (omega arith); default = λ _. k.default (omega arith) }
added-clear s (say_row w) c h k = record {
  rows = λ z. absurd (omega arith);
  columns = λ _. ap (map _) (k.columns (omega arith));
  nevers = λ _. ap (map _) (k.nevers (omega arith));
  default = λ _. k.default (omega arith);
}
added-clear s (say_column x es) c h k = record { rows = λ z. absurd (omega arith); columns = λ z. absurd (omega arith); nevers = λ _. k.nevers (omega arith); default = λ _. k.default (omega arith) }
added-clear s (say_never es) c h k = record { rows = λ z. absurd (omega arith); columns = λ z. absurd (omega arith); nevers = λ z. absurd (omega arith); default = λ _. k.default (omega arith) }
added-clear s (say_default x) c h k = record { rows = λ z. absurd (omega arith); columns = λ z. absurd (omega arith); nevers = λ z. absurd (omega arith); default = λ z. absurd (omega arith) }

-- where a word may stand
pub allowed-place : (s : Section) (w : Word) (t : Section) → allowed s w ≡ Some t → (rank s ≤ place w) × (place w < 5)
allowed-place s w t e =
    let p = and_parts (leb (rank s) (place w)) (ltb (place w) 5) (some-under (leb (rank s) (place w) && ltb (place w) 5) (Some (section_of w)) t e).0 in
    (leb-true (rank s) (place w) p.0, ltb-true (place w) 5 p.1)

pub way-lines : (s : Section) (n : ℕ) (xs : List Said) (c d : PageContents) → Ordered s n xs → Clear s c → Way c xs d → lines_of d ≡ lines_of c ++ xs
way-lines s n [] c d o k w = ap lines_of (sym w) ∙ sym (append-nil (lines_of c))
way-lines s n (x ∷ xs) c d o k w =
    let p = (allowed-place s (word_of x) (section_of (word_of x)) o.0).0 in
    way-lines (section_of (word_of x)) (rows_after (word_of x) n) xs (added x c) d o.2 (added-clear s x c p k) w.1
    ∙ ap (λ l. l ++ xs) (added-lines s x c p k) ∙ append_assoc (lines_of c) (x ∷ []) xs
