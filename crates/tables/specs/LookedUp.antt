-- What each outcome and each answer of look-up says. Assumes nothing.
use Rattle.std.specs.Prelude.{◌≡◌, ℕ, suc, ◌+◌, true, false, ◌⊎◌, length, Some, None}
use Rattle.std.specs.List.{slice_get, AllByRecursion}
use Rattle.kinds.specs.Meaning.{Meaning}
use Rattle.faults.specs.declared.LookupFault.TheVariants.{OutOfRange, Barred as NotPossible, Gap as NoColumn, Clash as Unequal}
use Rattle.results.specs.Results.{Results}
use Rattle.items.specs.declared.Side.{Side}
use Rattle.tables.specs.Words.{Any, Cut}
use Rattle.tables.specs.Contents.{Contents, Column, Encounter, Place, places, whole, value_of, exchange, within, place_in_range, InRange}
use Rattle.tables.specs.Outcomes.{Outcome, barred, gap, clash, answer, outcome, met}
use Rattle.tables.specs.Lookups.{Look, short_for, no_result, found, by_outcome, look_up}
use Rattle.tables.specs.Faultless.{Barred, Gap, Clash, Faultless, Meets}

module _ {V C R : Type 0} (m : Meaning V C) (r : Results R) (c : Contents V C R) (e : Encounter V) where
  abbrev pub Unmet : Column C R → Type 0
  Unmet k = met m c.rows k.entries e ≡ false

  abbrev pub NoNever : Type 0
  NoNever = AllByRecursion (λ n. met m c.rows n e ≡ false) c.nevers

  -- if it is met, it bears a result equal to x
  abbrev pub Agrees : R → Column C R → Type 0
  Agrees x k = Meets m r c e k → r.same x k.result ≡ true

  abbrev pub Disagrees : R → Column C R → Type 0
  Disagrees x k = Meets m r c e k × (r.same x k.result ≡ false)

  -- What each outcome means. A clash tells the lowest column met and the next one unequal to it.
  abbrev pub Fits : Outcome R → Type 0
  Fits barred = Any (λ n. met m c.rows n e ≡ true) c.nevers
  Fits gap = NoNever × AllByRecursion Unmet c.columns × (c.default ≡ None)
  Fits (clash i j) = NoNever × (k : Cut Unmet (Meets m r c e) c.columns) × (i ≡ length k.before)
      × (l : Cut (Agrees k.here.result) (Disagrees k.here.result) k.rest) × (j ≡ suc i + length l.before)
  Fits (answer x) = NoNever
      × (((k : Cut Unmet (Meets m r c e) c.columns) × (x ≡ k.here.result) × AllByRecursion (Agrees x) k.rest) ⊎ (AllByRecursion Unmet c.columns × (c.default ≡ Some x)))

  abbrev pub Outside : Place V → Type 0
  Outside p = within m p.quantity (value_of e p) ≡ false

  -- of the needed values, the lowest quantity first and A before B, that of list s and quantity i is the first out of range
  pub record FirstOutside (s : Side) (i : ℕ) : Type 0 where
    pub cut : Cut (place_in_range m e) Outside (places c)
    pub side : cut.here.side ≡ s
    pub number : cut.here.number ≡ i
    pub quantity : slice_get c.quantities i ≡ Some cut.here.quantity

  -- what each answer of look-up says: 13, 19 to 22, and a result
  abbrev pub Tells : Look R → Type 0
  Tells short_for = whole e ≡ false
  Tells (no_result (OutOfRange s i)) = FirstOutside s i
  Tells (no_result NotPossible) = InRange m c e × Barred m r c e
  Tells (no_result NoColumn) = InRange m c e × Gap m r c e
  Tells (no_result Unequal) = InRange m c e × Clash m r c e
  Tells (found x) = InRange m c e × (outcome m r c e ≡ answer x)

  pub record LookedUpRightly : Type 0 where
    pub fits : Fits (outcome m r c e)
    pub tells : Tells (look_up m r c e)
    -- that a list is too short is told first
    pub short : whole e ≡ false → look_up m r c e ≡ short_for
    -- in range it tells the outcome
    pub in_range : whole e ≡ true → InRange m c e → look_up m r c e ≡ by_outcome (outcome m r c e)
    -- in a sheet without fault there is no gap and no clash, and the exchanged flights get the same answer
    pub settled : whole e ≡ true → InRange m c e → Faultless m r c → (look_up m r c e ≡ no_result NotPossible) ⊎ ((x : R) × (look_up m r c e ≡ found x))
    pub still_barred : Faultless m r c → look_up m r c e ≡ no_result NotPossible → look_up m r c (exchange c e) ≡ no_result NotPossible
    pub still_found : Faultless m r c → (x : R) → look_up m r c e ≡ found x → (y : R) × ((look_up m r c (exchange c e) ≡ found y) × (r.same x y ≡ true))
