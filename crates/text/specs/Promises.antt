-- What is promised of the text of a page: what is written reads back, and what was read is written
-- back, byte for byte. Assumes nothing.
use Rattle.std.specs.Prelude.{◌≡◌, ℕ, ◌+◌, ◌<◌, ◌≤◌, true, List, ◌∷◌, map, length, ℤ, Ok, decimal, nat_lt}
use Rattle.std.specs.Fmt.{signed_decimal}
use Rattle.std.specs.List.{AllByRecursion}
use Rattle.house.specs.House.{Value, Cell}
use Rattle.items.specs.declared.Mode.{Mode}
use Rattle.items.specs.declared.Entry.{Entry}
use Rattle.text.specs.Fields.{parted, rejoined}
use Rattle.text.specs.Forms.{Form, Faithful}
use Rattle.text.specs.Numbers.{number, measure, time}
use Rattle.text.specs.Words.{mode, kind, value, first_word}
use Rattle.text.specs.Cells.{entry}
use Rattle.text.specs.Lines.{Line, line_of}
use Rattle.text.specs.Pages.{lines_of, page_of}
use Rattle.text.specs.Texts.{seven_digits, time_text, mode_text, kind_text, word_text, value_right, value_text, entry_right, entry_text, Said, said, word_of, fields_of, line_body, line_text, room, rooms, located_at, located, LineRight, Ordered, page_text}
use Rattle.text.specs.declared.types.KindWord.{KindWord}
use Rattle.text.specs.declared.types.Word.{Word}
use Rattle.text.specs.declared.types.Section.{Section}
use Rattle.text.specs.declared.types.Section.TheVariants.{Quantities}

-- the forms of a field
abbrev pub number_form : Form ℕ
number_form = record { right = λ n. nat_lt n 10000000; text = decimal; read = number }

abbrev pub measure_form : Form ℤ
measure_form = record { right = seven_digits; text = signed_decimal; read = measure }

abbrev pub time_form : Form ℕ
time_form = record { right = λ t. nat_lt t 1440; text = time_text; read = time }

abbrev pub mode_form : Form Mode
mode_form = record { right = λ m. true; text = mode_text; read = mode }

abbrev pub kind_form : Form KindWord
kind_form = record { right = λ k. true; text = kind_text; read = kind }

abbrev pub word_form : Form Word
word_form = record { right = λ w. true; text = word_text; read = first_word }

abbrev pub value_form : KindWord → Form Value
value_form k = record { right = value_right k; text = value_text; read = value k }

abbrev pub entry_form : Form (Entry Cell)
entry_form = record { right = entry_right; text = entry_text; read = entry }

-- every form of field
pub record Fields-faithful : Type 0 where
  pub numbers : Faithful number_form
  pub measures : Faithful measure_form
  pub times : Faithful time_form
  pub modes : Faithful mode_form
  pub kinds : Faithful kind_form
  pub words : Faithful word_form
  pub values : (k : KindWord) → Faithful (value_form k)
  pub entries : Faithful entry_form

-- a text is its parts put together, and parts without a separator are the parts of what they make
pub record Parts-faithful : Type 0 where
  pub whole : (sep : ℕ) (bs : List ℕ) → rejoined sep (parted sep bs) ≡ bs
  pub parts : (sep : ℕ) (f : List ℕ) (fs : List (List ℕ)) → sep ≤ 32 → AllByRecursion (λ b. 32 < b) f → AllByRecursion (λ f. AllByRecursion (λ b. 32 < b) f) fs → parted sep (rejoined sep (f ∷ fs)) ≡ f ∷ fs

-- the fields after a line's first word, which start at byte `at`
pub record Line-faithful : Type 0 where
  pub back : (n at : ℕ) (x : Said) → LineRight n x → line_of (word_of x) n at (fields_of x) ≡ Ok (located_at at x)
  pub same : (w : Word) (n at : ℕ) (fs : List (List ℕ)) (l : Line) → line_of w n at fs ≡ Ok l → (word_of (said l) ≡ w) × LineRight n (said l) × (fields_of (said l) ≡ fs)
  pub bare : (at : ℕ) (x : Said) → said (located_at at x) ≡ x

-- lines one after another
pub record Lines-faithful : Type 0 where
  pub back : (s : Section) (n k : ℕ) (xs : List Said) → Ordered s n xs → lines_of s n k (map line_body xs) ≡ Ok (map located xs)
  pub same : (s : Section) (n k : ℕ) (ls : List (List ℕ)) (ys : List Line) → lines_of s n k ls ≡ Ok ys → Ordered s n (map said ys) × (map line_body (map said ys) ≡ ls)

-- whole pages
pub record Pages-faithful : Type 0 where
  pub back : (xs : List Said) → Ordered Quantities 0 xs → length (page_text xs) ≤ 65536 → page_of (page_text xs) ≡ Ok (map located xs)
  pub same : (page : List ℕ) (ys : List Line) → page_of page ≡ Ok ys → Ordered Quantities 0 (map said ys) × (page_text (map said ys) ≡ page)

-- a line and a page are no longer than this, so that the page of any sheet can be read
pub record Lines-short : Type 0 where
  pub line : (n : ℕ) (x : Said) → LineRight n x → length (line_text x) ≤ room x
  pub page : (s : Section) (n : ℕ) (xs : List Said) → Ordered s n xs → length (page_text xs) ≤ rooms xs + 4

-- all of it
pub record Text-faithful : Type 0 where
  pub fields : Fields-faithful
  pub parts : Parts-faithful
  pub line : Line-faithful
  pub lines : Lines-faithful
  pub pages : Pages-faithful
  pub short : Lines-short
