-- Contents whose entries lie in a list without a bit beyond the names have none either. Assumes nothing.
use Rattle.std.proofs.Common.{ℕ, zero, suc, ◌+◌, ◌*◌, List, [], ◌∷◌, map, take, slice_index_or}
use Rattle.std.specs.List.{range_with_len, AllByRecursion}
use Rattle.house.specs.House.{Cell}
use Rattle.items.specs.declared.Counts.{Counts}
use Rattle.items.specs.declared.Entry.{Entry}
use Rattle.items.specs.declared.Entry.TheVariants.{Any}
use Rattle.results.specs.declared.figure.Figure.{Figure}
use Rattle.tables.specs.Storage.{column_of, columns_from, contents_of}
use Rattle.pages.specs.NameBits.{EntryOnlyNames, NoBitBeyond}
use Rattle.pages.specs.Reads.{PageLists}

-- what a map gives over numbers one after the other
All-counted : {X : Type 0} (P : X → Type 0) (f : ℕ → X) → ((i : ℕ) → P (f i)) → (from n : ℕ) → AllByRecursion P (map f (range_with_len from n))
All-counted P f h from zero = tt
All-counted P f h from (suc n) = (h from, All-counted P f h (from + 1) n)

-- the entry at a place, or any where there is none
at-place : (es : List (Entry Cell)) → AllByRecursion EntryOnlyNames es → (k : ℕ) → EntryOnlyNames (slice_index_or es k Any)
at-place [] h k = tt
at-place (e ∷ es) h zero = h.0
at-place (e ∷ es) h (suc k) = at-place es h.1 k

module _ (es : List (Entry Cell)) (h : AllByRecursion EntryOnlyNames es) where
  column-names : (n j : ℕ) → AllByRecursion EntryOnlyNames (column_of es n j)
  column-names n j = All-counted EntryOnlyNames (λ i. slice_index_or es (24 * i + j) Any) (λ i. at-place es h (24 * i + j)) 0 n

  columns-names : (n j : ℕ) (xs : List Figure) → AllByRecursion (λ k. AllByRecursion EntryOnlyNames k.entries) (columns_from es n j xs)
  columns-names n j [] = tt
  columns-names n j (x ∷ xs) = (column-names n j, columns-names n (suc j) xs)

pub no-bit-beyond : (n : Counts) (l : PageLists) → AllByRecursion EntryOnlyNames l.entries → NoBitBeyond (contents_of n l)
no-bit-beyond n l h = record {
  columns = columns-names l.entries h n.rows 0 (take n.columns l.results);
  nevers = All-counted (AllByRecursion EntryOnlyNames) (λ j. column_of l.entries n.rows (16 + j)) (λ j. column-names l.entries h n.rows (16 + j)) 0 n.nevers;
}
