-- What is in one or the other of two lists of sets, place by place. Assumes nothing.
use Rattle.std.proofs.Common.{◌≡◌, ℕ, ◌<◌, ◌%◌, ◌^◌, List, [], ◌∷◌, fold, bit_and, bit_or, zip, refl, sym, ap, ◌∙◌, arith}
use Rattle.std.proofs.lemmas.Nat.{and_assoc, and_le_l, and_mask, or_comm}
use Rattle.sets.specs.Walks.{joint}

pub joint-folds : (s : ℕ) (xs ys : List ℕ) → fold (λ s p. bit_and s (bit_or p.0 p.1)) s (zip xs ys) ≡ joint s xs ys
joint-folds s [] ys = refl
joint-folds s (x ∷ xs) [] = refl
joint-folds s (x ∷ xs) (y ∷ ys) = joint-folds (bit_and s (bit_or x y)) xs ys

joint-and : (t s : ℕ) (xs ys : List ℕ) → joint (bit_and t s) xs ys ≡ bit_and t (joint s xs ys)
joint-and t s [] ys = refl
joint-and t s (x ∷ xs) [] = refl
joint-and t s (x ∷ xs) (y ∷ ys) = ap (λ z. joint z xs ys) (and_assoc (bit_or x y) t s) ∙ joint-and t (bit_and s (bit_or x y)) xs ys

joint-turned : (s : ℕ) (xs ys : List ℕ) → joint s xs ys ≡ joint s ys xs
joint-turned s [] [] = refl
joint-turned s [] (y ∷ ys) = refl
joint-turned s (x ∷ xs) [] = refl
joint-turned s (x ∷ xs) (y ∷ ys) = ap (λ z. joint (bit_and s z) xs ys) (or_comm x y) ∙ joint-turned (bit_and s (bit_or y x)) xs ys

-- of a set below 2 ^ 32, by what all columns have in one or the other
pub joint-with : (s : ℕ) (xs ys : List ℕ) → s < 2 ^ 32 → joint s xs ys ≡ bit_and s (joint 4294967295 xs ys)
joint-with s xs ys h =
    let small : s % 2 ^ 32 ≡ s = omega (arith, h) in
    ap (λ z. joint z xs ys) (sym (and_mask s 32 ∙ small)) ∙ joint-and s 4294967295 xs ys

-- and likewise with the two exchanged
pub joint-with_turned : (s : ℕ) (xs ys : List ℕ) → s < 2 ^ 32 → joint s ys xs ≡ bit_and s (joint 4294967295 xs ys)
joint-with_turned s xs ys h = joint-with s ys xs h ∙ ap (bit_and s) (joint-turned 4294967295 ys xs)

-- two sets that are taken from another are no greater
pub within_first : (s a b : ℕ) → s < 2 ^ 32 → bit_and (bit_and s a) b < 2 ^ 32
within_first s a b h = let one = and_le_l (bit_and s a) b in let two = and_le_l s a in omega (arith, one, two, h)
