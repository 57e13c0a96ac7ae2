-- One value and one quantity of an encounter, on the way through those made of starts. Assumes nothing.
use Rattle.std.specs.Prelude.{ℕ, List, map}
use Rattle.items.specs.declared.Scope.{Scope}
use Rattle.items.specs.declared.Scope.TheVariants.{Flight, Pair}
use Rattle.items.specs.declared.Side.TheVariants.{OfA, OfB, OfPair}
use Rattle.items.specs.declared.Quantity.{Quantity}
use Rattle.tables.specs.Contents.{Encounter, Place, sides, put}

module _ {V : Type 0} where
  -- the value at the places of quantity i
  abbrev pub at_least : ℕ → V → Scope → Encounter V → Encounter V
  at_least i v Flight e = put OfB i v (put OfA i v e)
  at_least i v Pair e = put OfPair i v e

  abbrev pub places_of : ℕ → Quantity V → Scope → List (Place V)
  places_of i q s = map (λ s. record { side = s; number = i; quantity = q }) (sides s)
