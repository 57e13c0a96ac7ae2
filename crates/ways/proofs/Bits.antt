-- Bits of sets: what is in two of them, in one of two, in a run of such. Assumes nothing.
use Rattle.std.proofs.Common.{◌≡◌, ℕ, min, max, Bool, true, false, ◌&&◌, ◌||◌, List, [], ◌∷◌, map, sym, refl, ap, ◌∙◌, ap₂, bit_and, bit_or}
use Rattle.std.specs.Int.{bit_at}
use Rattle.std.proofs.lemmas.Nat.Bits.{bit_at_and, bit_at_or}
use Rattle.sets.specs.Sets.{bit}
use Rattle.sets.specs.Walks.{joint}

-- of two lists of truths: beside each other, does one of the two hold
abbrev pub joined : List Bool → List Bool → Bool
joined [] vs = true
joined (a ∷ us) [] = true
joined (a ∷ us) (b ∷ vs) = (a || b) && joined us vs

min-bit : (p q : Bool) → min (bit p) (bit q) ≡ bit (p && q)
min-bit true true = refl
min-bit true false = refl
min-bit false true = refl
min-bit false false = refl

max-bit : (p q : Bool) → max (bit p) (bit q) ≡ bit (p || q)
max-bit true true = refl
max-bit true false = refl
max-bit false true = refl
max-bit false false = refl

pub and_assoc : (p q r : Bool) → ((p && q) && r) ≡ (p && (q && r))
and_assoc true q r = refl
and_assoc false q r = refl

pub and-true : (p : Bool) → (p && true) ≡ p
and-true true = refl
and-true false = refl

pub bit-both : (s t k : ℕ) (p q : Bool) → bit_at s k ≡ bit p → bit_at t k ≡ bit q → bit_at (bit_and s t) k ≡ bit (p && q)
bit-both s t k p q x y = bit_at_and s t k ∙ ap₂ min x y ∙ min-bit p q

bit-one : (s t k : ℕ) (p q : Bool) → bit_at s k ≡ bit p → bit_at t k ≡ bit q → bit_at (bit_or s t) k ≡ bit (p || q)
bit-one s t k p q x y = bit_at_or s t k ∙ ap₂ max x y ∙ max-bit p q

pub bit-joint : (k s : ℕ) (p : Bool) (xs ys : List ℕ) (us vs : List Bool) → bit_at s k ≡ bit p → map (λ x. bit_at x k) xs ≡ map bit us → map (λ x. bit_at x k) ys ≡ map bit vs → bit_at (joint s xs ys) k ≡ bit (p && joined us vs)
bit-joint k s p [] ys [] vs h x y = h ∙ ap bit (sym (and-true p))
bit-joint k s p [] ys (a ∷ us) vs h x y = cc
bit-joint k s p (t ∷ xs) ys [] vs h x y = cc
bit-joint k s p (t ∷ xs) [] (a ∷ us) [] h x y = h ∙ ap bit (sym (and-true p))
bit-joint k s p (t ∷ xs) [] (a ∷ us) (b ∷ vs) h x y = cc
bit-joint k s p (t ∷ xs) (u ∷ ys) (a ∷ us) [] h x y = cc
bit-joint k s p (t ∷ xs) (u ∷ ys) (a ∷ us) (b ∷ vs) h x y =
    let t-is : bit_at t k ≡ bit a = cc in
    let u-is : bit_at u k ≡ bit b = cc in
    let xs-are : map (λ x. bit_at x k) xs ≡ map bit us = cc in
    let ys-are : map (λ x. bit_at x k) ys ≡ map bit vs = cc in
    bit-joint k (bit_and s (bit_or t u)) (p && (a || b)) xs ys us vs (bit-both s (bit_or t u) k p (a || b) h (bit-one t u k a b t-is u-is)) xs-are ys-are
    ∙ ap bit (and_assoc p (a || b) (joined us vs))
