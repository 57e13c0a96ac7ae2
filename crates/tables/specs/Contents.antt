-- What a sheet says, apart from where its lists keep it, and what an encounter is. Assumes nothing.
use Rattle.std.specs.Prelude.{◌≡◌, ℕ, suc, Bool, true, false, ◌&&◌, List, [], ◌∷◌, ◌++◌, map, length, Some, None, Option, ◌==◌, nat_le, slice_set}
use Rattle.std.specs.List.{slice_get, AllByRecursion}
use Rattle.kinds.specs.Meaning.{Meaning}
use Rattle.items.specs.declared.Scope.{Scope}
use Rattle.items.specs.declared.Scope.TheVariants.{Flight, Pair as OfBoth}
use Rattle.items.specs.declared.Side.{Side}
use Rattle.items.specs.declared.Side.TheVariants.{OfA, OfB, OfPair}
use Rattle.items.specs.declared.Quantity.{Quantity}
use Rattle.items.specs.declared.Row.{Row}
use Rattle.items.specs.declared.Entry.{Entry}

-- a column that bears a result: an entry a row
pub record Column (C R : Type 0) : Type 0 where
  pub entries : List (Entry C)
  pub result : R

pub record Contents (V C R : Type 0) : Type 0 where
  pub quantities : List (Quantity V)
  pub rows : List Row
  pub columns : List (Column C R)
  pub nevers : List (List (Entry C))
  pub default : Option R

-- the values of two flights: those of A, of B and of the pair, by quantity
pub record Encounter (V : Type 0) : Type 0 where
  pub a : List V
  pub b : List V
  pub pair : List V

-- one value that an encounter needs
pub record Place (V : Type 0) : Type 0 where
  pub side : Side
  pub number : ℕ
  pub quantity : Quantity V

abbrev pub sides : Scope → List Side
sides Flight = OfA ∷ OfB ∷ []
sides OfBoth = OfPair ∷ []

module _ {V : Type 0} where
  -- the values that are needed, the lowest quantity first, A before B
  abbrev pub places_from : ℕ → List (Quantity V) → List (Place V)
  places_from i [] = []
  places_from i (q ∷ qs) = map (λ s. record { side = s; number = i; quantity = q }) (sides q.scope) ++ places_from (suc i) qs

  abbrev pub places : {C R : Type 0} → Contents V C R → List (Place V)
  places c = places_from 0 c.quantities

  abbrev pub value_at : Encounter V → Side → ℕ → Option V
  value_at e OfA i = slice_get e.a i
  value_at e OfB i = slice_get e.b i
  value_at e OfPair i = slice_get e.pair i

  abbrev pub put : Side → ℕ → V → Encounter V → Encounter V
  put OfA i v e = record { a = slice_set e.a i v; b = e.b; pair = e.pair }
  put OfB i v e = record { a = e.a; b = slice_set e.b i v; pair = e.pair }
  put OfPair i v e = record { a = e.a; b = e.b; pair = slice_set e.pair i v }

  abbrev pub value_of : Encounter V → Place V → Option V
  value_of e p = value_at e p.side p.number

  abbrev pub put_at : Place V → V → Encounter V → Encounter V
  put_at p v e = put p.side p.number v e

  -- are the three lists of right length
  abbrev pub whole : Encounter V → Bool
  whole e = length e.a == 16 && (length e.b == 16 && length e.pair == 16)

  -- the same encounter with the flights exchanged
  abbrev pub exchange : {C R : Type 0} → Contents V C R → Encounter V → Encounter V
  exchange c e = record { a = e.b; b = e.a; pair = e.pair }

module _ {V C : Type 0} (m : Meaning V C) where
  abbrev pub within : Quantity V → Option V → Bool
  within q None = false
  within q (Some v) = nat_le (m.rank q.least) (m.rank v) && nat_le (m.rank v) (m.rank q.greatest)

  abbrev pub place_in_range : Encounter V → Place V → Type 0
  place_in_range e p = within p.quantity (value_of e p) ≡ true

  abbrev pub InRange : {R : Type 0} → Contents V C R → Encounter V → Type 0
  InRange c e = AllByRecursion (place_in_range e) (places c)
