-- What the program prints of a page, byte for byte. Assumes nothing.
use Rattle.std.specs.Prelude.{ℕ, suc, Bool, false, cond, ◌&&◌, List, [], ◌∷◌, ◌++◌, take, replicate, pos, is_ok, Some, None, Ok, Err, codes, decimal, Option, Result, nat_le}
use Rattle.joined.specs.declared.Either.TheVariants.{Left}
use Rattle.house.specs.House.{Value, house}
use Rattle.items.specs.declared.Counts.{Counts}
use Rattle.items.specs.declared.Entry.TheVariants.{Any}
use Rattle.items.specs.declared.Mode.TheVariants.{Pair as PairMode}
use Rattle.items.specs.declared.Quantity.{Quantity}
use Rattle.items.specs.declared.Scope.{Scope}
use Rattle.items.specs.declared.Scope.TheVariants.{Pair as PairScope}
use Rattle.items.specs.declared.Side.{Side}
use Rattle.results.specs.Figures.{figures}
use Rattle.faults.specs.Numbers.{sheet_number}
use Rattle.faults.specs.declared.SheetFault.{SheetFault}
use Rattle.page_faults.specs.Numbers.{page_number}
use Rattle.page_faults.specs.declared.PageRefusal.{PageRefusal}
use Rattle.tables.specs.Answers.{issue_answer, issue_writes}
use Rattle.tables.specs.Contents.{Encounter, sides, value_at}
use Rattle.text.specs.Texts.{value_text}
use Rattle.pages.specs.Reads.{PageLists, read_page}

-- a value after a space
abbrev pub value_shown : Option Value → List ℕ
value_shown None = []
value_shown (Some v) = 32 ∷ value_text v

-- the values of a quantity, by whose they are, up to the line's end
abbrev pub values_shown : ℕ → Encounter Value → List Side → List ℕ
values_shown i e [] = 10 ∷ []
values_shown i e (s ∷ ss) = value_shown (value_at e s i) ++ values_shown i e ss

-- the line of quantity i: its number, then A's value and B's, or the pair's
abbrev pub line_shown : ℕ → Encounter Value → Scope → List ℕ
line_shown i e s = decimal i ++ values_shown i e (sides s)

-- a line for each quantity, from quantity i on
abbrev pub lines_shown : ℕ → Encounter Value → List (Quantity Value) → List ℕ
lines_shown i e [] = []
lines_shown i e (q ∷ qs) = line_shown i e q.scope ++ lines_shown (suc i) e qs

-- the line of an issued sheet, with its count
abbrev pub issued_text : ℕ → List ℕ
issued_text count = codes "issued " ++ (decimal count ++ (10 ∷ []))

-- the line of a sheet that is not issued
abbrev pub refused_text : ℕ → List ℕ
refused_text number = codes "refused " ++ (decimal number ++ (10 ∷ []))

-- the line of a page that is not read to its end, with its place
abbrev pub refusal_text : PageRefusal → List ℕ
refusal_text f = codes "refused " ++ (decimal (page_number f.fault) ++ (codes " line " ++ (decimal f.line ++ (codes " byte " ++ (decimal f.byte ++ (10 ∷ []))))))

-- with 16 to 18 an encounter is shown
abbrev pub is_shown : SheetFault → Bool
is_shown f = nat_le 16 (sheet_number f) && nat_le (sheet_number f) 18

-- by what issue answers, and the encounter that it shows
abbrev pub answer_text : List (Quantity Value) → Result ℕ SheetFault → Encounter Value → List ℕ
answer_text qs (Ok count) e = issued_text count
answer_text qs (Err f) e = cond (is_shown f) (refused_text (sheet_number f) ++ lines_shown 0 e qs) (refused_text (sheet_number f))

module _ (l : PageLists) (e : Encounter Value) where
  -- by what reading comes to: the lists l afterwards, and the encounter lists e lent to issue
  abbrev pub went_text : Result Counts PageRefusal → List ℕ
  went_text (Ok n) = answer_text (take n.quantities l.quantities) (issue_answer house figures n l e) (issue_writes house figures n l e)
  went_text (Err f) = refusal_text f

  -- whether the sheet is issued
  abbrev pub went_issued : Result Counts PageRefusal → Bool
  went_issued (Ok n) = is_ok (issue_answer house figures n l e)
  went_issued (Err f) = false

-- what is printed of a page that is read into these lists, and whether its sheet is issued
abbrev pub report_on : List ℕ → PageLists → Encounter Value → List ℕ
report_on page l e = let went = read_page page l in went_text went.lists e went.answer

abbrev pub issued_on : List ℕ → PageLists → Encounter Value → Bool
issued_on page l e = let went = read_page page l in went_issued went.lists e went.answer

-- the lists that the program starts with
abbrev pub no_value : Value
no_value = Left (pos 0)

unfoldable pub fresh_lists : PageLists
fresh_lists = record {
  quantities = replicate 16 (record { scope = PairScope; least = no_value; greatest = no_value });
  rows = replicate 16 (record { quantity = 0; mode = PairMode });
  entries = replicate 384 Any;
  results = replicate 17 (record { value = pos 0 });
}

unfoldable pub fresh_values : List Value
fresh_values = replicate 16 no_value

abbrev pub fresh_encounter : Encounter Value
fresh_encounter = record { a = fresh_values; b = fresh_values; pair = fresh_values }

-- what the program prints of a page, and whether its sheet is issued
abbrev pub report_text : List ℕ → List ℕ
report_text page = report_on page fresh_lists fresh_encounter

abbrev pub is_issued : List ℕ → Bool
is_issued page = issued_on page fresh_lists fresh_encounter
