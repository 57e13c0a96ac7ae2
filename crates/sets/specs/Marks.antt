-- What the marks of the starts of a quantity say. Assumes nothing.
use Rattle.std.specs.Prelude.{◌≡◌, ℕ, suc, ◌+◌, ◌<◌, Bool, true, false, cond, ◌&&◌, List, [], ◌∷◌, map, length, take, ◌==◌}
use Rattle.std.specs.Int.{bit_at}
use Rattle.std.specs.List.{between}
use Rattle.kinds.specs.Meaning.{Meaning}
use Rattle.items.specs.declared.Mode.{Mode}
use Rattle.items.specs.declared.Mode.TheVariants.{A, B, Both, Either, Pair}
use Rattle.items.specs.declared.Quantity.{Quantity}
use Rattle.items.specs.declared.Row.{Row}
use Rattle.items.specs.declared.Entry.{Entry}
use Rattle.items.specs.declared.Entry.TheVariants.{Any, Cell}
use Rattle.tables.specs.Contents.{Contents}
use Rattle.tables.specs.Starts.{cells_of, starts}
use Rattle.sets.specs.declared.Mark.{Mark}
use Rattle.sets.specs.declared.Span.{Span}
use Rattle.sets.specs.Sets.{Has, bit}

-- does a row of the mode read A's value, the pair's among them
abbrev pub reads_a : Mode → Bool
reads_a A = true
reads_a B = false
reads_a Both = true
reads_a Either = false
reads_a Pair = true

abbrev pub reads_b : Mode → Bool
reads_b A = false
reads_b B = true
reads_b Both = true
reads_b Either = false
reads_b Pair = true

abbrev pub is_either : Mode → Bool
is_either A = false
is_either B = false
is_either Both = false
is_either Either = true
is_either Pair = false

module _ {V C : Type 0} (m : Meaning V C) where
  -- does the entry hold for a value of its row's quantity
  abbrev pub held : Entry C → V → Bool
  held Any v = true
  held (Cell x) v = m.holds x v

  -- do the entries of a column hold for v in the rows that read quantity i in a mode of the sort
  abbrev pub all_held : (Mode → Bool) → ℕ → V → List Row → List (Entry C) → Bool
  all_held sort i v [] xs = true
  all_held sort i v (w ∷ ws) [] = true
  all_held sort i v (w ∷ ws) (x ∷ xs) = let rest = all_held sort i v ws xs in cond (w.quantity == i && sort w.mode) (held x v && rest) rest

  -- of each row of mode either that reads quantity i: does the column's entry hold for v
  abbrev pub each_held : ℕ → V → List Row → List (Entry C) → List Bool
  each_held i v [] xs = []
  each_held i v (w ∷ ws) [] = []
  each_held i v (w ∷ ws) (x ∷ xs) = let rest = each_held i v ws xs in cond (w.quantity == i && is_either w.mode) (held x v ∷ rest) rest

  module _ (ws : List Row) (column : ℕ → List (Entry C)) (i : ℕ) where
    -- x is the mark of the value v of quantity i
    pub record Marked (v : V) (x : Mark V) : Type 0 where
      pub value : x.value ≡ v
      pub of_a : Has x.of_a (λ k. all_held reads_a i v ws (column k))
      pub of_b : Has x.of_b (λ k. all_held reads_b i v ws (column k))
      pub either : (k : ℕ) → k < 24 → map (λ s. bit_at s k) (take x.eithers x.either) ≡ map bit (each_held i v ws (column k))

    -- the marks of the values vs
    abbrev pub AllMarked : List V → List (Mark V) → Type 0
    AllMarked [] [] = Unit {0}
    AllMarked [] (x ∷ xs) = ⊥
    AllMarked (v ∷ vs) [] = ⊥
    AllMarked (v ∷ vs) (x ∷ xs) = Marked v x × AllMarked vs xs

  module _ {R : Type 0} (c : Contents V C R) (column : ℕ → List (Entry C)) (marks : List (Mark V)) where
    -- the span has the marks of the starts of quantity i
    pub record Spanned (i : ℕ) (q : Quantity V) (s : Span) : Type 0 where
      pub scope : s.scope ≡ q.scope
      pub quantity : s.quantity ≡ i
      pub marked : AllMarked c.rows column i (starts m (cells_of c i) q) (between s.from s.to marks)
      -- as many marks as starts
      pub counted : s.to ≡ s.from + length (starts m (cells_of c i) q)

    -- the spans are those of the quantities from number i on
    abbrev pub AllSpanned : ℕ → List (Quantity V) → List Span → Type 0
    AllSpanned i [] [] = Unit {0}
    AllSpanned i [] (s ∷ ss) = ⊥
    AllSpanned i (q ∷ qs) [] = ⊥
    AllSpanned i (q ∷ qs) (s ∷ ss) = Spanned i q s × AllSpanned (suc i) qs ss
