-- The faults that a sheet can have over all encounters in range, and what a sheet without fault has. Assumes nothing.
use Rattle.std.specs.Prelude.{◌≡◌, ℕ, true, false, ◌⊎◌}
use Rattle.std.specs.List.{AllByRecursion}
use Rattle.kinds.specs.Meaning.{Meaning}
use Rattle.results.specs.Results.{Results}
use Rattle.tables.specs.Contents.{Contents, Column, Encounter, exchange, InRange}
use Rattle.tables.specs.Outcomes.{barred, gap, clash, answer, outcome, is_barred, met, symmetric}

module _ {V C R : Type 0} (m : Meaning V C) (r : Results R) (c : Contents V C R) where
  abbrev pub EachInRange : (Encounter V → Type 0) → Type 0
  EachInRange P = (e : Encounter V) → InRange m c e → P e

  abbrev pub SomeInRange : (Encounter V → Type 0) → Type 0
  SomeInRange P = (e : Encounter V) × (InRange m c e × P e)

  abbrev pub NoneInRange : (Encounter V → Type 0) → Type 0
  NoneInRange P = EachInRange (λ e. P e → ⊥)

  abbrev pub Barred : Encounter V → Type 0
  Barred e = outcome m r c e ≡ barred

  abbrev pub Unbarred : Encounter V → Type 0
  Unbarred e = is_barred r (outcome m r c e) ≡ false

  abbrev pub Gap : Encounter V → Type 0
  Gap e = outcome m r c e ≡ gap

  abbrev pub Clash : Encounter V → Type 0
  Clash e = (i : ℕ) × ((j : ℕ) × (outcome m r c e ≡ clash i j))

  abbrev pub Asymmetry : Encounter V → Type 0
  Asymmetry e = symmetric m r c e ≡ false

  -- why a sheet is refused whose count is within the limit
  abbrev pub Faulty : Type 0
  Faulty = EachInRange Barred ⊎ SomeInRange (λ e. Gap e ⊎ (Clash e ⊎ Asymmetry e))

  -- the encounter meets the column
  abbrev pub Meets : Encounter V → Column C R → Type 0
  Meets e k = met m c.rows k.entries e ≡ true

-- What an issued sheet has.
pub record Faultless {V C R : Type 0} (m : Meaning V C) (r : Results R) (c : Contents V C R) : Type 0 where
  -- some encounter in range is not barred
  pub not_all_barred : SomeInRange m r c (Unbarred m r c)
  -- each in range is barred or answered
  pub settled : EachInRange m r c (λ e. Barred m r c e ⊎ ((x : R) × (outcome m r c e ≡ answer x)))
  -- each column that an answered one meets bears the result that is answered
  pub agreed : EachInRange m r c (λ e. (x : R) → outcome m r c e ≡ answer x → AllByRecursion (λ k. Meets m r c e k → r.same x k.result ≡ true) c.columns)
  -- any two columns that an answered one meets bear the same result
  pub same_result : EachInRange m r c (λ e. (x : R) → outcome m r c e ≡ answer x
      → AllByRecursion (λ k. Meets m r c e k → AllByRecursion (λ l. Meets m r c e l → r.same k.result l.result ≡ true) c.columns) c.columns)
  -- with the flights exchanged the barred stay barred, and the answers stay the same
  pub still_barred : EachInRange m r c (λ e. Barred m r c e → Barred m r c (exchange c e))
  pub still_answered : EachInRange m r c (λ e. (x : R) → outcome m r c e ≡ answer x → (y : R) × ((outcome m r c (exchange c e) ≡ answer y) × (r.same x y ≡ true)))
