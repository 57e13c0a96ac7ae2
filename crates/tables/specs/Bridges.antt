-- What the starts are, in which order the encounters made of them come, and how these stand for all encounters in range. Assumes nothing.
use Rattle.std.specs.Prelude.{◌≡◌, ℕ, suc, ◌*◌, ◌<◌, ◌≤◌, true, ◌⊎◌, List, [], ◌∷◌, length, is_some, Some, Option}
use Rattle.std.specs.Option.{unwrap_or}
use Rattle.std.specs.List.{AllByRecursion}
use Rattle.kinds.specs.Meaning.{Meaning}
use Rattle.results.specs.Results.{Results}
use Rattle.items.specs.declared.Scope.{Scope}
use Rattle.items.specs.declared.Scope.TheVariants.{Flight, Pair as OfBoth}
use Rattle.items.specs.declared.Quantity.{Quantity}
use Rattle.tables.specs.Words.{Any, InOrder}
use Rattle.tables.specs.Contents.{Contents, Encounter, Place, places, whole, value_of, exchange, InRange}
use Rattle.tables.specs.Outcomes.{outcome}
use Rattle.tables.specs.Starts.{cells_of, starts_on, starts, count, from_starts, onward, reset, advance, remaining, turned}

module _ {V C : Type 0} (m : Meaning V C) where
  -- s is up to z, and of the stops of the cells after v the earliest
  pub record EarliestStop (xs : List C) (z v s : V) : Type 0 where
    pub stops : Any (λ x. m.stop x v ≡ Some s) xs
    pub earliest : AllByRecursion (λ x. (t : V) → m.stop x v ≡ Some t → m.rank s ≤ m.rank t) xs
    pub within : m.rank s ≤ m.rank z

  -- no cell has a stop after v that is up to z
  abbrev pub NoStop : List C → V → V → Type 0
  NoStop xs z v = AllByRecursion (λ x. (t : V) → m.stop x v ≡ Some t → m.rank z < m.rank t) xs

  -- The starts from v up to z are v and then those from the earliest stop after v, or v alone where there is none.
  abbrev pub StartsGoOn : Type 0
  StartsGoOn = (xs : List C) (z v : V)
      → ((s : V) × (EarliestStop xs z v s × (starts_on m xs z v ≡ v ∷ starts_on m xs z s))) ⊎ (NoStop xs z v × (starts_on m xs z v ≡ v ∷ []))

  abbrev pub Earlier : Option V → Option V → Type 0
  Earlier o u = (v : V) × ((w : V) × ((o ≡ Some v) × ((u ≡ Some w) × (m.rank v < m.rank w))))

  -- at the first of the places where the values differ, that of e is earlier
  abbrev pub Precedes : List (Place V) → Encounter V → Encounter V → Type 0
  Precedes [] e s = ⊥
  Precedes (p ∷ ps) e s = Earlier (value_of e p) (value_of s p) ⊎ ((value_of e p ≡ value_of s p) × Precedes ps e s)

abbrev pub taken : Scope → ℕ → ℕ
taken Flight n = n * n
taken OfBoth n = n

module _ {V C R : Type 0} (m : Meaning V C) (r : Results R) (c : Contents V C R) where
  -- each encounter in range has the outcomes of one that is made of starts, as it stands and with the flights exchanged
  abbrev pub Bridge : Type 0
  Bridge = (e lent : Encounter V) → InRange m c e → whole lent ≡ true
      → Any (λ s. (outcome m r c s ≡ outcome m r c e) × (outcome m r c (exchange c s) ≡ outcome m r c (exchange c e))) (from_starts m c lent)

  -- the product of the numbers of starts of the quantities from number i on, a flight quantity's taken twice
  abbrev pub count_from : ℕ → List (Quantity V) → ℕ
  count_from i [] = 1
  count_from i (q ∷ qs) = let n = length (starts m (cells_of c i) q) in taken q.scope n * count_from (suc i) qs

  abbrev pub CountIsProduct : Type 0
  CountIsProduct = count m c ≡ count_from 0 c.quantities

  -- the encounters made of starts are as many as the count, lie in range, and come in the order of their needed values: the lowest quantity first, A before B
  abbrev pub MadeOfStarts : Type 0
  MadeOfStarts = (lent : Encounter V) → whole lent ≡ true
      → (length (from_starts m c lent) ≡ count m c) × AllByRecursion (InRange m c) (from_starts m c lent) × InOrder (Precedes m (places c)) (from_starts m c lent)

  -- one after the other from the least values on, they all come, in order
  abbrev pub OneByOne : Type 0
  OneByOne = (e : Encounter V) → whole e ≡ true
      → (remaining m c (places c) (reset m c (places c) e) ≡ from_starts m c e)
      × (remaining m c (places c) e ≡ e ∷ onward (remaining m c (places c)) (advance m c (places c) e))
      × (turned m c (places c) e ≡ (is_some (advance m c (places c) e), unwrap_or (advance m c (places c) e) (reset m c (places c) e)))
      × AllByRecursion (λ p. value_of (reset m c (places c) e) p ≡ Some p.quantity.least) (places c)
