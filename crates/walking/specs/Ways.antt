-- What is left of the pairs of a quantity's marks. Assumes nothing.
use Rattle.std.specs.Prelude.{List, [], ◌∷◌, ◌++◌, map}
use Rattle.items.specs.declared.Scope.{Scope}
use Rattle.items.specs.declared.Scope.TheVariants.{Flight, Pair}
use Rattle.tables.specs.Words.{each}
use Rattle.sets.specs.declared.Mark.{Mark}
use Rattle.sets.specs.Walks.{pairs}
use Rattle.walking.specs.declared.pairs.Pairs.{Pairs}

module _ {V : Type 0} where
  -- the pairs of A's marks, where bs stand beside the first of them and all beside each other one
  abbrev pub left_of : Scope → List (Mark V) → List (Mark V) → List (Mark V) → List (Mark V × Mark V)
  left_of Flight all bs [] = []
  left_of Flight all bs (x ∷ xs) = map (λ y. (x, y)) bs ++ each xs (λ x. map (λ y. (x, y)) all)
  left_of Pair all bs xs = pairs Pair xs

  abbrev pub pairs_left : Pairs V → List (Mark V × Mark V)
  pairs_left s = left_of s.scope s.all.now s.of_b.now s.of_a.now
