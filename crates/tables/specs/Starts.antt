-- The values at which an outcome can change, and the encounters made of them. Assumes nothing.
use Rattle.std.specs.Prelude.{ℕ, zero, suc, ◌-◌, Bool, true, false, cond, List, [], ◌∷◌, ◌++◌, map, length, Some, None, Option, ◌==◌, nat_le}
use Rattle.kinds.specs.Meaning.{Meaning, earlier}
use Rattle.items.specs.declared.Quantity.{Quantity}
use Rattle.items.specs.declared.Row.{Row}
use Rattle.items.specs.declared.Entry.{Entry}
use Rattle.items.specs.declared.Entry.TheVariants.{Any, Cell}
use Rattle.std.specs.Option.{option_map}
use Rattle.tables.specs.Words.{each, product, or_else}
use Rattle.tables.specs.Contents.{Contents, Encounter, Place, places, value_of, put_at}

module _ {C : Type 0} where
  -- the cells among a column's entries in rows that read quantity i
  abbrev pub reading : ℕ → List Row → List (Entry C) → List C
  reading i [] xs = []
  reading i (w ∷ ws) [] = []
  reading i (w ∷ ws) (Any ∷ xs) = reading i ws xs
  reading i (w ∷ ws) (Cell x ∷ xs) = cond (w.quantity == i) (x ∷ reading i ws xs) (reading i ws xs)

  -- the cells in rows that read quantity i, of the columns and then of the nevers
  abbrev pub cells_of : {V R : Type 0} → Contents V C R → ℕ → List C
  cells_of c i = each c.columns (λ k. reading i c.rows k.entries) ++ each c.nevers (reading i c.rows)

abbrev pub onward : {X Y : Type 0} → (X → List Y) → Option X → List Y
onward f None = []
onward f (Some x) = f x

-- the stop, unless it is after z
abbrev pub not_after : {V : Type 0} → (V → ℕ) → V → Option V → Option V
not_after rank z None = None
not_after rank z (Some s) = cond (nat_le (rank s) (rank z)) (Some s) None

module _ {V C : Type 0} (m : Meaning V C) where
  -- the earliest stop of all cells after v
  abbrev pub earliest : List C → V → Option V
  earliest [] v = None
  earliest (x ∷ xs) v = earlier m.rank (m.stop x v) (earliest xs v)

  -- the start after v, up to z
  abbrev pub next : List C → V → V → Option V
  next xs z v = not_after m.rank z (earliest xs v)

  -- v, then repeatedly the next start, n of them at most
  abbrev pub starts_from : ℕ → List C → V → V → List V
  starts_from zero xs z v = []
  starts_from (suc n) xs z v = v ∷ onward (starts_from n xs z) (next xs z v)

  -- each start is a later value, so there are no more of them than places in the order
  abbrev pub starts_on : List C → V → V → List V
  starts_on xs z v = starts_from (suc (m.rank z - m.rank v)) xs z v

  abbrev pub starts : List C → Quantity V → List V
  starts xs q = starts_on xs q.greatest q.least

  module _ {R : Type 0} (c : Contents V C R) where
    abbrev pub starts_at : Place V → List V
    starts_at p = starts (cells_of c p.number) p.quantity

    -- the product of the numbers of starts: a flight quantity has two places
    abbrev pub count : ℕ
    count = product (map (λ p. length (starts_at p)) (places c))

    -- e with every choice of starts at the places, the first place slowest
    abbrev pub choices : List (Place V) → Encounter V → List (Encounter V)
    choices [] e = e ∷ []
    choices (p ∷ ps) e = each (starts_at p) (λ v. choices ps (put_at p v e))

    -- the encounters made of starts, in order; e has what is not needed
    abbrev pub from_starts : Encounter V → List (Encounter V)
    from_starts e = choices (places c) e

    -- Issue goes through them one by one: all places at their least, and then on.
    abbrev pub reset : List (Place V) → Encounter V → Encounter V
    reset [] e = e
    reset (p ∷ ps) e = reset ps (put_at p p.quantity.least e)

    abbrev pub next_at : Place V → Option V → Option V
    next_at p None = None
    next_at p (Some v) = next (cells_of c p.number) p.quantity.greatest v

    -- the last place that has a further start takes it, and those after it their least
    abbrev pub advance : List (Place V) → Encounter V → Option (Encounter V)
    advance [] e = None
    advance (p ∷ ps) e = or_else (advance ps e) (option_map (λ v. reset ps (put_at p v e)) (next_at p (value_of e p)))

    -- e and those after it
    abbrev pub remaining : List (Place V) → Encounter V → List (Encounter V)
    remaining [] e = e ∷ []
    remaining (p ∷ ps) e = remaining ps e ++ each (onward (starts_on (cells_of c p.number) p.quantity.greatest) (next_at p (value_of e p))) (λ v. choices ps (put_at p v e))

    -- the same done in place, from the last place to the first: is there a further one, and the lists afterwards
    abbrev pub turned_at : Place V → Bool × Encounter V → Option V → Bool × Encounter V
    turned_at p s (Some v) = (true, put_at p v s.1)
    turned_at p s None = (false, put_at p p.quantity.least s.1)

    abbrev pub turned : List (Place V) → Encounter V → Bool × Encounter V
    turned [] e = (false, e)
    turned (p ∷ ps) e = let s = turned ps e in cond s.0 s (turned_at p s (next_at p (value_of s.1 p)))
