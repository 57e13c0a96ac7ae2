-- Sets of columns and nevers as numbers, bit by bit. Assumes nothing.
use Rattle.std.specs.Prelude.{◌≡◌, ℕ, ◌-◌, ◌<◌, Bool, true, cond, ◌&&◌, List, [], ◌∷◌, nat_lt}
use Rattle.std.specs.Int.{bit_at}
use Rattle.kinds.specs.Meaning.{Meaning}
use Rattle.items.specs.declared.Counts.{Counts}
use Rattle.items.specs.declared.Row.{Row}
use Rattle.items.specs.declared.Entry.{Entry}
use Rattle.tables.specs.Contents.{Contents, Encounter, exchange}
use Rattle.tables.specs.Outcomes.{entry_holds, met}
use Rattle.sets.specs.declared.Met.{Met}

-- a truth as a bit
abbrev pub bit : Bool → ℕ
bit b = cond b 1 0

-- of the 24 columns and nevers, s has just those that p holds of
abbrev pub Has : ℕ → (ℕ → Bool) → Type 0
Has s p = (k : ℕ) → k < 24 → bit_at s k ≡ bit (p k)

-- is it a column or a never in use; never n is column 16 + n
abbrev pub in_use : Counts → ℕ → Bool
in_use n k = cond (nat_lt k 16) (nat_lt k n.columns) (nat_lt (k - 16) n.nevers)

module _ {V C : Type 0} (m : Meaning V C) where
  -- do the entries hold in the rows whose quantity passes a test
  abbrev pub met_where : (ℕ → Bool) → List Row → List (Entry C) → Encounter V → Bool
  met_where t [] xs e = true
  met_where t (w ∷ ws) [] e = true
  met_where t (w ∷ ws) (x ∷ xs) e = let rest = met_where t ws xs e in cond (t w.quantity) (entry_holds m w x e && rest) rest

  module _ (n : Counts) (ws : List Row) (column : ℕ → List (Entry C)) where
    -- s has what an encounter meets, in the rows that read the quantities below i
    abbrev pub HasBelow : ℕ → ℕ → Encounter V → Type 0
    HasBelow i s e = Has s (λ k. in_use n k && met_where (λ q. nat_lt q i) ws (column k) e)

    pub record MetBelow {R : Type 0} (c : Contents V C R) (i : ℕ) (s : Met) (e : Encounter V) : Type 0 where
      pub here : HasBelow i s.here e
      pub exchanged : HasBelow i s.exchanged (exchange c e)

    -- s has what an encounter meets, as it stands and with the flights exchanged
    abbrev pub HasMet : ℕ → Encounter V → Type 0
    HasMet s e = Has s (λ k. in_use n k && met m ws (column k) e)

    pub record MetBy {R : Type 0} (c : Contents V C R) (s : Met) (e : Encounter V) : Type 0 where
      pub here : HasMet s.here e
      pub exchanged : HasMet s.exchanged (exchange c e)
