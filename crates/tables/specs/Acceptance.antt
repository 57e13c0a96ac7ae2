-- What the draft calls would accept: the first question of every call. Assumes nothing.
use Rattle.std.specs.Prelude.{◌≡◌, Bool, true, false, ◌&&◌, List, [], ◌∷◌, Some, None, Option}
use Rattle.std.specs.List.{slice_get}
use Rattle.kinds.specs.Meaning.{Meaning}
use Rattle.results.specs.Results.{Results}
use Rattle.items.specs.declared.Scope.{Scope}
use Rattle.items.specs.declared.Scope.TheVariants.{Flight, Pair as OfBoth}
use Rattle.items.specs.declared.Mode.{Mode}
use Rattle.items.specs.declared.Mode.TheVariants.{A, B, Both, Either, Pair}
use Rattle.items.specs.declared.Quantity.{Quantity}
use Rattle.items.specs.declared.Row.{Row}
use Rattle.items.specs.declared.Entry.{Entry}
use Rattle.items.specs.declared.Entry.TheVariants.{Any, Cell}
use Rattle.tables.specs.Words.{UpTo, up_to}
use Rattle.tables.specs.Contents.{Contents}

-- mode pair is for quantities of the pair, the others are for those of each flight
abbrev pub mode_fits : Mode → Scope → Bool
mode_fits A Flight = true
mode_fits A OfBoth = false
mode_fits B Flight = true
mode_fits B OfBoth = false
mode_fits Both Flight = true
mode_fits Both OfBoth = false
mode_fits Either Flight = true
mode_fits Either OfBoth = false
mode_fits Pair Flight = false
mode_fits Pair OfBoth = true

module _ {V C : Type 0} (m : Meaning V C) where
  -- What the draft calls ask of a quantity, a row and an entry.
  abbrev pub range_lawful : Quantity V → Bool
  range_lawful q = m.range q.least q.greatest

  -- the row's quantity exists and the mode fits it
  abbrev pub mode_lawful : Mode → Option (Quantity V) → Bool
  mode_lawful k None = false
  mode_lawful k (Some q) = mode_fits k q.scope

  abbrev pub cell_lawful : C → Option (Quantity V) → Bool
  cell_lawful x None = false
  cell_lawful x (Some q) = m.fits x q.least q.greatest

  abbrev pub row_lawful : List (Quantity V) → Row → Bool
  row_lawful qs w = mode_lawful w.mode (slice_get qs w.quantity)

  abbrev pub entry_lawful : List (Quantity V) → Row → Entry C → Bool
  entry_lawful qs w Any = true
  entry_lawful qs w (Cell x) = cell_lawful x (slice_get qs w.quantity)

  abbrev pub entries_lawful : List (Quantity V) → List Row → List (Entry C) → Bool
  entries_lawful qs [] [] = true
  entries_lawful qs [] (x ∷ xs) = false
  entries_lawful qs (w ∷ ws) [] = false
  entries_lawful qs (w ∷ ws) (x ∷ xs) = entry_lawful qs w x && entries_lawful qs ws xs

  -- one entry a row, each lawful for the row's range
  abbrev pub EntriesLawful : List (Quantity V) → List Row → List (Entry C) → Type 0
  EntriesLawful qs [] [] = Unit {0}
  EntriesLawful qs [] (x ∷ xs) = ⊥
  EntriesLawful qs (w ∷ ws) [] = ⊥
  EntriesLawful qs (w ∷ ws) (x ∷ xs) = (entry_lawful qs w x ≡ true) × EntriesLawful qs ws xs

abbrev pub DefaultLawful : {R : Type 0} → Results R → Option R → Type 0
DefaultLawful r None = Unit {0}
DefaultLawful r (Some d) = r.lawful d ≡ true

abbrev pub default_lawful : {R : Type 0} → Results R → Option R → Bool
default_lawful r None = true
default_lawful r (Some d) = r.lawful d

-- What the draft calls would accept.
pub record Acceptable {V C R : Type 0} (m : Meaning V C) (r : Results R) (c : Contents V C R) : Type 0 where
  pub quantities : UpTo 16 (λ q. range_lawful m q ≡ true) c.quantities
  pub rows : UpTo 16 (λ w. row_lawful m c.quantities w ≡ true) c.rows
  pub columns : UpTo 16 (λ k. EntriesLawful m c.quantities c.rows k.entries × (r.lawful k.result ≡ true)) c.columns
  pub nevers : UpTo 8 (EntriesLawful m c.quantities c.rows) c.nevers
  pub default : DefaultLawful r c.default

-- The same as a test.
abbrev pub acceptable : {V C R : Type 0} → Meaning V C → Results R → Contents V C R → Bool
acceptable m r c = up_to 16 (range_lawful m) c.quantities
    && (up_to 16 (row_lawful m c.quantities) c.rows
    && (up_to 16 (λ k. entries_lawful m c.quantities c.rows k.entries && r.lawful k.result) c.columns
    && (up_to 8 (entries_lawful m c.quantities c.rows) c.nevers
    && default_lawful r c.default)))
