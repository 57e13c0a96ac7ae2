-- The way through the encounters made of starts, by the sets of the marks. Assumes nothing.
use Rattle.std.specs.Prelude.{◌≡◌, ℕ, Bool, cond, List, [], ◌∷◌, map, take, is_some, Some, None, Option}
use Rattle.std.specs.Int.Bits.{bit_and}
use Rattle.std.specs.Int.RustNames.{bit_or}
use Rattle.std.specs.List.{between}
use Rattle.std.specs.Option.{option_map, unwrap_or}
use Rattle.items.specs.declared.Scope.{Scope}
use Rattle.items.specs.declared.Scope.TheVariants.{Flight, Pair}
use Rattle.items.specs.declared.Side.TheVariants.{OfA, OfB, OfPair}
use Rattle.tables.specs.Contents.{Encounter, put}
use Rattle.tables.specs.Words.{each}
use Rattle.sets.specs.declared.Met.{Met}
use Rattle.sets.specs.declared.Mark.{Mark}
use Rattle.sets.specs.declared.Span.{Span}

-- the first element that f holds of
abbrev pub first_of : {X : Type 0} → (X → Bool) → List X → Option X
first_of f [] = None
first_of f (x ∷ xs) = let rest = first_of f xs in cond (f x) (Some x) rest

-- what is in each of two lists of sets, one beside the other, in one or the other: s and that
abbrev pub joint : ℕ → List ℕ → List ℕ → ℕ
joint s [] ys = s
joint s (x ∷ xs) [] = s
joint s (x ∷ xs) (y ∷ ys) = joint (bit_and s (bit_or x y)) xs ys

module _ {V : Type 0} where
  -- the marks of B's value that stand beside one of A's; a value of the pair stands beside itself
  abbrev pub beside : Scope → List (Mark V) → Mark V → List (Mark V)
  beside Flight xs x = xs
  beside Pair xs x = x ∷ []

  -- A's mark and B's, A's slower
  abbrev pub pairs : Scope → List (Mark V) → List (Mark V × Mark V)
  pairs s xs = each xs (λ x. map (λ y. (x, y)) (beside s xs x))

  -- of the columns met, those whose entries hold for A's value x and B's value y too
  abbrev pub held_by : Mark V → Mark V → ℕ → ℕ
  held_by x y s = joint (bit_and (bit_and s x.of_a) y.of_b) (take x.eithers x.either) (take y.eithers y.either)

  abbrev pub narrowed : Mark V × Mark V → Met → Met
  narrowed t s = record { here = held_by t.0 t.1 s.here; exchanged = held_by t.1 t.0 s.exchanged }

  -- the encounter with the values of two marks
  abbrev pub put_pair : Scope → ℕ → Mark V × Mark V → Encounter V → Encounter V
  put_pair Flight i t e = put OfB i t.1.value (put OfA i t.0.value e)
  put_pair Pair i t e = put OfPair i t.0.value e

  -- the encounters made of the starts of the spans, in order, each with what it meets; e has the other values
  abbrev pub leaves : List (Mark V) → List Span → Met → Encounter V → List (Met × Encounter V)
  leaves marks [] s e = (s, e) ∷ []
  leaves marks (p ∷ ps) s e = each (pairs p.scope (between p.from p.to marks)) (λ t. map (λ l. (l.0, put_pair p.scope p.quantity t l.1)) (leaves marks ps (narrowed t s) e))

  -- What a way through them finds: was one sought, and the encounter shown, the first one or else that before.
  pub record Walked (f : Met → Bool) (marks : List (Mark V)) (ps : List Span) (s : Met) (e : Encounter V) (b : Bool) (after : Encounter V) : Type 0 where
    pub told : b ≡ is_some (first_of (λ l. f l.0) (leaves marks ps s e))
    pub shows : after ≡ unwrap_or (option_map (λ l. l.1) (first_of (λ l. f l.0) (leaves marks ps s e))) e
