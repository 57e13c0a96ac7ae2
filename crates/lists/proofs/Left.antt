-- The numbers of the columns, and what is left of a count. Assumes nothing.
use Rattle.std.proofs.Common.{◌≡◌, ℕ, suc, ◌+◌, ◌-◌, ◌<◌, Bool, ◌&&◌, List, [], ◌∷◌, map, length, refl, ap, ◌∙◌, add-one, arith}
use Rattle.std.specs.List.{range_with_len, enumerate_from}
use Rattle.tables.specs.Contents.{Column}
use Rattle.items.specs.declared.Entry.{Entry}
use Rattle.tables.specs.Words.{all_of}
use Rattle.tables.specs.Storage.{column_of, columns_from}

-- one number more
pub count-here : {X : Type 0} (f : ℕ → X) (n i : ℕ) → i < n → map f (range_with_len i (n - i)) ≡ f i ∷ map f (range_with_len (i + 1) (n - (i + 1)))
count-here f n i h = let q : n - i ≡ suc (n - (i + 1)) = omega arith in ap (λ k. map f (range_with_len i k)) q

pub columns-length : {C R : Type 0} (es : List (Entry C)) (w j : ℕ) (rs : List R) → length (columns_from es w j rs) ≡ length rs
columns-length es w j [] = refl
columns-length es w j (x ∷ xs) = ap suc (columns-length es w (suc j) xs)

-- the columns are what is read of each number and its result
pub columns-numbered : {C R : Type 0} (es : List (Entry C)) (w : ℕ) (p : Column C R → Bool) (j : ℕ) (rs : List R)
    → all_of (λ k. p (record { entries = column_of es w k.0; result = k.1 })) (enumerate_from j rs) ≡ all_of p (columns_from es w j rs)
columns-numbered es w p j [] = refl
columns-numbered es w p j (x ∷ xs) =
    ap (λ b. p (record { entries = column_of es w j; result = x }) && b)
    (ap (λ k. all_of (λ k. p (record { entries = column_of es w k.0; result = k.1 })) (enumerate_from k xs)) (add-one j) ∙ columns-numbered es w p (suc j) xs)
