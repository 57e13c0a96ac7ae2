-- Pages of lines: where a page is refused, and what its lines say. Assumes nothing.
use Rattle.std.specs.Prelude.{ℕ, ◌+◌, ◌-◌, Bool, cond, ◌&&◌, ◌||◌, List, [], ◌∷◌, length, Some, None, Ok, Err, codes, Option, Result, ◌==◌, nat_le, slice_index}
use Rattle.std.specs.List.{between}
use Rattle.std.specs.Str.{bytes_eq}
use Rattle.text.specs.Fields.{in_front, parted}
use Rattle.text.specs.Forms.{onward, rest, rest_at}
use Rattle.text.specs.Words.{first_word, allowed}
use Rattle.text.specs.Lines.{Line, line_of, rows_after}
use Rattle.text.specs.declared.types.Word.{Word}
use Rattle.text.specs.declared.types.Section.{Section}
use Rattle.text.specs.declared.types.Section.TheVariants.{Quantities}

-- the lines of a text, each of which ends in byte 10
abbrev pub lined : List ℕ → List (List ℕ)
lined [] = []
lined (b ∷ bs) = cond (b == 10) ([] ∷ lined bs) (in_front b (lined bs))

-- the last line is `end`, with its byte 10
abbrev pub closed : List ℕ → Bool
closed page = nat_le 4 (length page) && (bytes_eq (between (length page - 4) (length page) page) (codes "end\n") && (length page == 4 || slice_index page (length page - 5) == 10))

-- the lines before the last
abbrev pub before : List ℕ → List (List ℕ)
before page = lined (between 0 (length page - 4) page)

-- why a page is not read: it is too long (24), its last line is not `end` (25), the first word of a
-- line may not stand there (26), or a field of a line is wrong, which starts at a byte of it (27)
pub data Refused : Type 0 where
  too_long : Refused
  not_closed : Refused
  wrong_word : ℕ → Refused
  wrong_field : ℕ → ℕ → Refused

-- the section after line `k`, whose word is this one
abbrev pub in_section : ℕ → Word → Option Section → Result (Word × Section) Refused
in_section k w (Some t) = Ok (w, t)
in_section k w None = Err (wrong_word k)

-- the word of line `k`, and the section after it
abbrev pub word_at : Section → ℕ → Option Word → Result (Word × Section) Refused
word_at s k None = Err (wrong_word k)
word_at s k (Some w) = in_section k w (allowed s w)

-- what is read of line `k`
abbrev pub in_line : {X : Type 0} → ℕ → Result X ℕ → Result X Refused
in_line k (Ok x) = Ok x
in_line k (Err byte) = Err (wrong_field k byte)

-- the first field
abbrev pub head : List (List ℕ) → List ℕ
head [] = []
head (f ∷ fs) = f

-- the fields of line `k`, in a section and on a sheet of `n` rows: what the line says, with its
-- word and the section after it
abbrev pub line_at : Section → ℕ → ℕ → List (List ℕ) → Result (Line × Word × Section) Refused
line_at s n k fs =
    onward (word_at s k (first_word (head fs))) (λ p.
    onward (in_line k (line_of p.0 n (rest_at 1 fs) (rest fs))) (λ l. Ok (l, p.0, p.1)))

-- the lines before the last, from line `k` on
abbrev pub lines_of : Section → ℕ → ℕ → List (List ℕ) → Result (List Line) Refused
lines_of s n k [] = Ok []
lines_of s n k (l ∷ ls) =
    onward (line_at s n k (parted 32 l)) (λ p.
    onward (lines_of p.2 (rows_after p.1 n) (k + 1) ls) (λ rest. Ok (p.0 ∷ rest)))

-- a page: its size, its last line, and then its lines
abbrev pub page_of : List ℕ → Result (List Line) Refused
page_of page =
    cond (nat_le (length page) 65536)
    (cond (closed page) (lines_of Quantities 0 1 (before page)) (Err not_closed))
    (Err too_long)
