-- What each answer of issue says, over all encounters in range. Assumes nothing.
use Rattle.std.specs.Prelude.{◌≡◌, ℕ, ◌<◌, ◌≤◌, true, false, Some, Decides}
use Rattle.std.specs.List.{AllByRecursion}
use Rattle.kinds.specs.Meaning.{Meaning}
use Rattle.results.specs.Results.{Results}
use Rattle.items.specs.declared.Side.{Side}
use Rattle.tables.specs.Words.{Any, Cut}
use Rattle.tables.specs.Contents.{Contents, Encounter, places, whole, value_at, value_of, InRange}
use Rattle.tables.specs.Outcomes.{clash, outcome}
use Rattle.tables.specs.Starts.{count, from_starts}
use Rattle.tables.specs.Issues.{Issue, short_lists, too_many, all_barred, shown_gap, shown_clash, shown_asymmetry, accepted, refused, limit, issue, written}
use Rattle.tables.specs.Faultless.{EachInRange, SomeInRange, NoneInRange, Barred, Unbarred, Gap, Clash, Asymmetry, Faulty, Faultless}

module _ {V C R : Type 0} (m : Meaning V C) (r : Results R) (c : Contents V C R) (lent : Encounter V) where
  -- e is in range, and of the encounters made of starts the earliest that is P: none before it is
  pub record Earliest (P : Encounter V → Type 0) (e : Encounter V) : Type 0 where
    pub in_range : InRange m c e
    pub cut : Cut (λ s. P s → ⊥) P (from_starts m c lent)
    pub shown : cut.here ≡ e

  -- the lists lent are of right length, and the count is within the limit
  pub record Searched : Type 0 where
    pub lengths : whole lent ≡ true
    pub few : count m c ≤ limit

  -- what each answer of issue says, 13 to 18 and acceptance: the questions before it are answered yes, and its own no
  abbrev pub Says : Issue V → Type 0
  Says short_lists = whole lent ≡ false
  Says too_many = (whole lent ≡ true) × (limit < count m c)
  Says all_barred = Searched × EachInRange m r c (Barred m r c)
  Says (shown_gap e) = Searched × SomeInRange m r c (Unbarred m r c) × Earliest (Gap m r c) e
  Says (shown_clash e i j) = Searched × SomeInRange m r c (Unbarred m r c) × NoneInRange m r c (Gap m r c) × Earliest (Clash m r c) e × (outcome m r c e ≡ clash i j)
  Says (shown_asymmetry e) = Searched × SomeInRange m r c (Unbarred m r c) × NoneInRange m r c (Gap m r c) × NoneInRange m r c (Clash m r c) × Earliest (Asymmetry m r c) e
  Says (accepted n) = Searched × (n ≡ count m c) × Faultless m r c

  -- some quantity needs entry i of the side's list
  abbrev pub Needed : Side → ℕ → Type 0
  Needed s i = Any (λ p. (p.side ≡ s) × (p.number ≡ i)) (places c)

  -- the lists are of right length, and the entries that no quantity needs are those of the lists lent
  pub record Unneeded (e : Encounter V) : Type 0 where
    pub lengths : whole e ≡ true
    pub kept : (s : Side) (i : ℕ) → (Needed s i → ⊥) → value_at e s i ≡ value_at lent s i

  -- every needed entry holds its least value, and the others are as they were
  pub record AtLeast (e : Encounter V) : Type 0 where
    pub least : AllByRecursion (λ p. value_of e p ≡ Some p.quantity.least) (places c)
    pub others : Unneeded e

  -- what the encounter lists hold after each answer
  abbrev pub Leaves : Issue V → Encounter V → Type 0
  Leaves short_lists e = e ≡ lent
  Leaves too_many e = e ≡ lent
  Leaves all_barred e = AtLeast e
  Leaves (shown_gap s) e = (e ≡ s) × Unneeded e
  Leaves (shown_clash s i j) e = (e ≡ s) × Unneeded e
  Leaves (shown_asymmetry s) e = (e ≡ s) × Unneeded e
  Leaves (accepted n) e = AtLeast e

  pub record IssuedRightly : Type 0 where
    -- issue tells the truth
    pub says : Says (issue m r c lent)
    -- with lists of right length and a count within the limit it refuses exactly when the sheet is faulty
    pub exactly : whole lent ≡ true → count m c ≤ limit → Decides (refused (issue m r c lent)) (Faulty m r c)
    pub leaves : Leaves (issue m r c lent) (written m r c lent (issue m r c lent))
