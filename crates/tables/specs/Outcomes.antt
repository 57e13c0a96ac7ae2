-- What a sheet answers for an encounter. Assumes nothing.
use Rattle.std.specs.Prelude.{ℕ, suc, Bool, true, false, cond, ◌&&◌, ◌||◌, List, [], ◌∷◌, Some, None, Option}
use Rattle.kinds.specs.Meaning.{Meaning}
use Rattle.items.specs.declared.Side.TheVariants.{OfA, OfB, OfPair}
use Rattle.items.specs.declared.Mode.{Mode}
use Rattle.items.specs.declared.Mode.TheVariants.{A, B, Both, Either, Pair}
use Rattle.items.specs.declared.Row.{Row}
use Rattle.items.specs.declared.Entry.{Entry}
use Rattle.items.specs.declared.Entry.TheVariants.{Any, Cell}
use Rattle.tables.specs.Contents.{Contents, Column, Encounter, value_at, exchange}
use Rattle.results.specs.Results.{Results}

module _ {V C : Type 0} (m : Meaning V C) where
  abbrev pub holds_for : C → Option V → Bool
  holds_for x None = false
  holds_for x (Some v) = m.holds x v

  -- does the cell hold for quantity i in the mode
  abbrev pub test : Mode → C → ℕ → Encounter V → Bool
  test A x i e = holds_for x (value_at e OfA i)
  test B x i e = holds_for x (value_at e OfB i)
  test Both x i e = holds_for x (value_at e OfA i) && holds_for x (value_at e OfB i)
  test Either x i e = holds_for x (value_at e OfA i) || holds_for x (value_at e OfB i)
  test Pair x i e = holds_for x (value_at e OfPair i)

  abbrev pub entry_holds : Row → Entry C → Encounter V → Bool
  entry_holds w Any e = true
  entry_holds w (Cell x) e = test w.mode x w.quantity e

  -- a column is met when all its entries hold
  abbrev pub met : List Row → List (Entry C) → Encounter V → Bool
  met [] xs e = true
  met (w ∷ ws) [] e = true
  met (w ∷ ws) (x ∷ xs) e = entry_holds w x e && met ws xs e

  abbrev pub some_met : List Row → List (List (Entry C)) → Encounter V → Bool
  some_met ws [] e = false
  some_met ws (n ∷ ns) e = met ws n e || some_met ws ns e

  -- the columns that are met, each with its number from k on and its result
  abbrev pub columns_met : {R : Type 0} → ℕ → List Row → List (Column C R) → Encounter V → List (ℕ × R)
  columns_met k ws [] e = []
  columns_met k ws (x ∷ xs) e = cond (met ws x.entries e) ((k, x.result) ∷ columns_met (suc k) ws xs e) (columns_met (suc k) ws xs e)

pub data Outcome (R : Type 0) : Type 0 where
  barred : Outcome R
  gap : Outcome R
  -- the lowest column met, and the next one unequal to it
  clash : ℕ → ℕ → Outcome R
  answer : R → Outcome R

module _ {R : Type 0} (r : Results R) where
  -- the first column with a result unequal to x
  abbrev pub unequal : R → List (ℕ × R) → Option ℕ
  unequal x [] = None
  unequal x (k ∷ ks) = cond (r.same x k.1) (unequal x ks) (Some k.0)

  -- the lowest column met, and the first unequal to it, where there is one
  abbrev pub clash_or_answer : ℕ × R → Option ℕ → Outcome R
  clash_or_answer k None = answer k.1
  clash_or_answer k (Some j) = clash k.0 j

  abbrev pub judged : Option R → List (ℕ × R) → Outcome R
  judged None [] = gap
  judged (Some d) [] = answer d
  judged d (k ∷ ks) = clash_or_answer k (unequal k.1 ks)

  abbrev pub is_barred : Outcome R → Bool
  is_barred = elim [ barred ↦ true | gap ↦ false | clash i j ↦ false | answer x ↦ false ]

  abbrev pub is_gap : Outcome R → Bool
  is_gap = elim [ barred ↦ false | gap ↦ true | clash i j ↦ false | answer x ↦ false ]

  abbrev pub is_clash : Outcome R → Bool
  is_clash = elim [ barred ↦ false | gap ↦ false | clash i j ↦ true | answer x ↦ false ]

  abbrev pub answers : R → Outcome R → Bool
  answers x = elim [ barred ↦ false | gap ↦ false | clash i j ↦ false | answer y ↦ r.same x y ]

  -- unequal results differ
  abbrev pub alike : Outcome R → Outcome R → Bool
  alike barred o = is_barred o
  alike gap o = is_gap o
  alike (clash i j) o = is_clash o
  alike (answer x) o = answers x o

module _ {V C R : Type 0} (m : Meaning V C) (r : Results R) (c : Contents V C R) where
  -- the first that fits
  abbrev pub outcome : Encounter V → Outcome R
  outcome e = cond (some_met m c.rows c.nevers e) barred (judged r c.default (columns_met m 0 c.rows c.columns e))

  -- is the outcome the same with the flights exchanged
  abbrev pub symmetric : Encounter V → Bool
  symmetric e = alike r (outcome e) (outcome (exchange c e))
