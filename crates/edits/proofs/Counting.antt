-- Lists of right length hold as many items as bounded counts say. Assumes nothing.
use Rattle.std.proofs.Common.{◌≡◌, ℕ, ◌+◌, ◌≤◌, List, length, take, ◌∙◌, arith, length-take}
use Rattle.std.proofs.lemmas.List.FromFn.{length-map-range_with_len}
use Rattle.items.specs.declared.Counts.{Counts}
use Rattle.tables.specs.Storage.{Lists, Bounded, RightLengths, contents_of, column_of}
use Rattle.lists.proofs.Left.{columns-length}

pub record Counted {V C R : Type 0} (n : Counts) (l : Lists V C R) : Type 0 where
  pub quantities : length (contents_of n l).quantities ≡ n.quantities
  pub rows : length (contents_of n l).rows ≡ n.rows
  pub columns : length (contents_of n l).columns ≡ n.columns
  pub nevers : length (contents_of n l).nevers ≡ n.nevers

full : {X : Type 0} (xs : List X) (n k : ℕ) → n ≤ k → length xs ≡ k → length (take n xs) ≡ n
full xs n k h e = omega (arith, length-take n xs)

pub counted : {V C R : Type 0} (n : Counts) (l : Lists V C R) → Bounded n → RightLengths l → Counted n l
counted n l b h = record {
  quantities = full l.quantities n.quantities 16 b.quantities h.quantities;
  rows = full l.rows n.rows 16 b.rows h.rows;
  columns = columns-length l.entries n.rows 0 (take n.columns l.results) ∙ full l.results n.columns 17 (omega (arith, b.columns)) h.results;
  nevers = length-map-range_with_len (λ j. column_of l.entries n.rows (16 + j)) 0 n.nevers;
}
