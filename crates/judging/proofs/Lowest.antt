-- What the lowest columns of a set give. Assumes nothing.
use Rattle.std.proofs.Common.{◌≡◌, ℕ, zero, suc, ◌+◌, ◌^◌, ◌<◌, ◌≤◌, min, Bool, true, false, cond, not, ◌&&◌, List, [], ◌∷◌, length, get_or, Some, None, Option, refl, sym, ap, ap₂, ◌∙◌, arith, inl, inr, w32, slice_index}
use Rattle.std.specs.Int.{bit_at, trailing_zeros}
use Rattle.std.specs.Int.Bits.{bit_and}
use Rattle.std.specs.List.{slice_get}
use Rattle.std.proofs.lemmas.Bool.{cases_lt, cases_eq, eq-eqb, ne_eqb}
use Rattle.std.proofs.lemmas.Nat.{and_le_l}
use Rattle.std.proofs.lemmas.Nat.Bits.{bit_at_and, bit_at-trailing_zeros, bit_at-zero}
use Rattle.results.specs.Results.{Results}
use Rattle.tables.specs.Outcomes.{judged, unequal, clash_or_answer}
use Rattle.sets.specs.Sets.{bit}
use Rattle.judging.specs.Judged.{has, lowest_in, lowest_outcome, UnlikeTable}
use Rattle.judging.proofs.InSet.{OnlyBelow, columns_in, bit-has, has-bit, below_lowest, at_lowest}

-- the first number from j on, of n, that is in the set
abbrev first_bit : ℕ → ℕ → ℕ → Option ℕ
first_bit v j zero = None
first_bit v j (suc n) = let rest = first_bit v (suc j) n in cond (has v j) (Some j) rest

no-bit : (v j n : ℕ) → ((k : ℕ) → j ≤ k → k < j + n → bit_at v k ≡ 0) → first_bit v j n ≡ None
no-bit v j zero none = refl
no-bit v j (suc n) none =
    ap (λ b. cond b (Some j) (first_bit v (suc j) n)) (bit-has v j false (none j (omega arith) (omega arith)))
    ∙ no-bit v (suc j) n (λ k low high. none k (omega arith) (omega arith))

some-bit : (v t : ℕ) → bit_at v t ≡ 1 → ((k : ℕ) → k < t → bit_at v k ≡ 0) → (j n : ℕ) → j ≤ t → t < j + n → first_bit v j n ≡ Some t
some-bit v t one none j zero low high = absurd (omega arith)
some-bit v t one none j (suc n) low high = elim (cases_lt j t) [
  | inl before ↦ ap (λ b. cond b (Some j) (first_bit v (suc j) n)) (bit-has v j false (none j before)) ∙ some-bit v t one none (suc j) n (omega arith) (omega arith)
  | inr at ↦ let same : j ≡ t = omega arith in
      ap (λ b. cond b (Some j) (first_bit v (suc j) n)) (bit-has v j true (ap (bit_at v) same ∙ one)) ∙ ap Some same
]

first-lowest : (v n : ℕ) → v < 2 ^ 32 → OnlyBelow n v → first_bit v 0 n ≡ lowest_in v
first-lowest v n fits only = elim (cases_eq v 0) [
  | inl z ↦ no-bit v 0 n (λ k low high. ap (λ x. bit_at x k) z ∙ bit_at-zero k) ∙ sym (ap (λ b. cond b None (Some (trailing_zeros w32 v))) (eq-eqb v 0 z))
  | inr z ↦ let t = bit_at-trailing_zeros w32 v (omega (arith, z)) fits in
      elim (cases_lt (trailing_zeros w32 v) n) [
        | inl inside ↦ some-bit v (trailing_zeros w32 v) t.1 t.2 0 n (omega arith) (omega arith) ∙ sym (ap (λ b. cond b None (Some (trailing_zeros w32 v))) (ne_eqb v 0 z))
        | inr out ↦ absurd (omega (arith, only (trailing_zeros w32 v) out, t.1))
      ]
]

min-bit : (p q : Bool) → min (bit p) (bit q) ≡ bit (p && q)
min-bit true true = refl
min-bit true false = refl
min-bit false true = refl
min-bit false false = refl

both-have : (u w i : ℕ) (q : Bool) → bit_at w i ≡ bit q → has (bit_and u w) i ≡ (has u i && q)
both-have u w i q h = bit-has (bit_and u w) i (has u i && q) (bit_at_and u w i ∙ ap₂ min (has-bit u i) h ∙ min-bit (has u i) q)

slice_get-none : {X : Type 0} (xs : List X) (i : ℕ) → slice_get xs i ≡ None → length xs ≤ i
slice_get-none [] i e = omega arith
slice_get-none (x ∷ xs) zero e = cc
slice_get-none (x ∷ xs) (suc i) e = omega (arith, slice_get-none xs i e)

slice_get-some : {X : Type 0} (xs : List X) (i : ℕ) (y : X) → slice_get xs i ≡ Some y → (i < length xs) × (y ≡ get_or xs i y)
slice_get-some [] i y e = cc
slice_get-some (x ∷ xs) zero y e = (omega arith, cc)
slice_get-some (x ∷ xs) (suc i) y e = let later = slice_get-some xs i y e in (omega (arith, later.0), later.1)

module _ {R : Type 0} where
  nothing-in : (u j : ℕ) (xs : List R) → ((k : ℕ) → j ≤ k → k < j + length xs → bit_at u k ≡ 0) → columns_in u j xs ≡ []
  nothing-in u j [] none = refl
  nothing-in u j (x ∷ xs) none =
      ap (λ b. cond b ((j, x) ∷ columns_in u (suc j) xs) (columns_in u (suc j) xs)) (bit-has u j false (none j (omega arith) (omega arith)))
      ∙ nothing-in u (suc j) xs (λ k low high. none k (omega arith) (omega arith))

  first-in : (u l : ℕ) (d : R) → bit_at u l ≡ 1 → ((k : ℕ) → k < l → bit_at u k ≡ 0) → (j : ℕ) (xs : List R) (k : ℕ) → l ≡ j + k → k < length xs
      → (rest : List (ℕ × R)) × (columns_in u j xs ≡ ((l, get_or xs k d) ∷ rest))
  first-in u l d one none j [] k is h = absurd (omega arith)
  first-in u l d one none j (x ∷ xs) zero is h =
      let same : j ≡ l = omega arith in
      (columns_in u (suc j) xs, ap (λ b. cond b ((j, x) ∷ columns_in u (suc j) xs) (columns_in u (suc j) xs)) (bit-has u j true (ap (bit_at u) same ∙ one)) ∙ ap (λ i. (i, x) ∷ columns_in u (suc j) xs) same)
  first-in u l d one none j (x ∷ xs) (suc k) is h =
      let later = first-in u l d one none (suc j) xs k (omega arith) (omega arith) in
      (later.0, ap (λ b. cond b ((j, x) ∷ columns_in u (suc j) xs) (columns_in u (suc j) xs)) (bit-has u j false (none j (omega arith))) ∙ later.1)

  module _ (r : Results R) where
    turn : {X : Type 0} (b : Bool) (x y : X) → cond b x y ≡ cond (not b) y x
    turn true x y = refl
    turn false x y = refl

    unequal-if : (b : Bool) (x : R) (k : ℕ × R) (ks : List (ℕ × R)) → unequal r x (cond b (k ∷ ks) ks) ≡ cond (b && not (r.same x k.1)) (Some k.0) (unequal r x ks)
    unequal-if true x k ks = turn (r.same x k.1) (unequal r x ks) (Some k.0)
    unequal-if false x k ks = refl

    unequal-first : (x : R) (u v j : ℕ) (xs : List R) → ((i k : ℕ) → i ≡ j + k → k < length xs → has v i ≡ (has u i && not (r.same x (get_or xs k x)))) → unequal r x (columns_in u j xs) ≡ first_bit v j (length xs)
    unequal-first x u v j [] all = refl
    unequal-first x u v j (y ∷ ys) all =
        unequal-if (has u j) x (j, y) (columns_in u (suc j) ys)
        ∙ ap (λ b. cond b (Some j) (unequal r x (columns_in u (suc j) ys))) (sym (all j 0 (omega arith) (omega arith)))
        ∙ ap (λ o. cond (has v j) (Some j) o) (unequal-first x u v (suc j) ys (λ i k is h. all i (suc k) (omega arith) (omega arith)))

    judged-cons : (d : Option R) (k : ℕ × R) (ks : List (ℕ × R)) → judged r d (k ∷ ks) ≡ clash_or_answer r k (unequal r k.1 ks)
    judged-cons None k ks = refl
    judged-cons (Some d) k ks = refl

    module _ (itself : (x : R) → r.same x x ≡ true) (xs : List R) (few : length xs ≤ 16) (t : List ℕ) (un : UnlikeTable r xs t) (u : ℕ) (fits : u < 2 ^ 32) (only : OnlyBelow (length xs) u) where
      -- no column is in the set
      judged-none : (d : Option R) → length xs ≤ trailing_zeros w32 u → judged r d (columns_in u 0 xs) ≡ judged r d []
      judged-none d h = ap (judged r d) (nothing-in u 0 xs (λ k low high. below_lowest u k fits (omega arith)))

      -- the lowest column in the set, and the lowest unequal to it
      judged-some : (d : Option R) (x : R) → trailing_zeros w32 u < length xs → x ≡ get_or xs (trailing_zeros w32 u) x
          → judged r d (columns_in u 0 xs) ≡ clash_or_answer r (trailing_zeros w32 u, x) (lowest_in (bit_and u (slice_index t (trailing_zeros w32 u))))
      judged-some d x h is =
          let l = trailing_zeros w32 u in
          let w = slice_index t l in
          let first = first-in u l x (at_lowest u fits (omega arith)) (λ k q. below_lowest u k fits q) 0 xs l (omega arith) h in
          let whole = first.1 ∙ ap (λ y. (l, y) ∷ first.0) (sym is) in
          let marks = λ (i k : ℕ) (q : i ≡ 0 + k) (inside : k < length xs).
          let same : i ≡ k = omega arith in
          both-have u w i (not (r.same x (get_or xs k x))) (ap (bit_at w) same ∙ un l k x h inside ∙ ap (λ y. bit (not (r.same y (get_or xs k x)))) (sym is)) in
          let none = λ (k : ℕ) (out : length xs ≤ k). let both = bit_at_and u w k in let clear : bit_at (bit_and u w) k ≡ 0 = omega (arith, both, only k out) in clear in
          let less : bit_and u w < 2 ^ 32 = omega (arith, and_le_l u w) in
          let other = sym (ap (λ b. cond b (unequal r x first.0) (Some l)) (itself x)) ∙ ap (unequal r x) (sym whole) ∙ unequal-first x u (bit_and u w) 0 xs marks ∙ first-lowest (bit_and u w) (length xs) less none in
          ap (judged r d) whole ∙ judged-cons d (l, x) first.0 ∙ ap (clash_or_answer r (l, x)) other

      -- the outcome of the columns in the set
      pub judged-lowest : (d : Option R) (o : Option R) → slice_get xs (trailing_zeros w32 u) ≡ o → judged r d (columns_in u 0 xs) ≡ lowest_outcome r d t u o
      judged-lowest d None e = judged-none d (slice_get-none xs (trailing_zeros w32 u) e)
      judged-lowest d (Some x) e = let read = slice_get-some xs (trailing_zeros w32 u) x e in judged-some d x read.0 read.1
