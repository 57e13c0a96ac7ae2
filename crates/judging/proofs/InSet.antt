-- The columns and nevers in the set that an encounter meets are those that are met. Assumes nothing.
use Rattle.std.proofs.Common.{◌≡◌, ℕ, zero, suc, ◌+◌, ◌-◌, ◌^◌, ◌<◌, ◌≤◌, Bool, true, false, cond, not, ◌&&◌, nat_lt, List, [], ◌∷◌, map, length, refl, sym, ap, ◌∙◌, arith, inl, inr, w32, ◌==◌}
use Rattle.std.specs.Int.{bit_at, trailing_zeros}
use Rattle.std.specs.Int.Count.{count_trailing_zeros}
use Rattle.std.specs.Int.Bits.{bit_and}
use Rattle.std.specs.List.{range_with_len}
use Rattle.std.proofs.lemmas.Bool.{cases_lt, cases_eq, lt-ltb, le-ltb, ltb-true, and_parts, eq-eqb, ne_eqb, or_left, or_right, or_from}
use Rattle.std.proofs.lemmas.Nat.{and_le_r}
use Rattle.std.proofs.lemmas.Nat.Bits.{bit_at_and, bit_at-lt, bit_at_ones, bit_at_ones_above, bit_at_mask_inside, bit_at_mask_below, bit_at_mask_above, bit_at-trailing_zeros, bit_at-zero}
use Rattle.kinds.specs.Meaning.{Meaning}
use Rattle.items.specs.declared.Counts.{Counts}
use Rattle.items.specs.declared.Row.{Row}
use Rattle.items.specs.declared.Entry.{Entry}
use Rattle.tables.specs.Contents.{Encounter}
use Rattle.tables.specs.Outcomes.{met, some_met, columns_met}
use Rattle.tables.specs.Storage.{Bounded, column_of, columns_from}
use Rattle.sets.specs.Sets.{bit, HasMet}
use Rattle.judging.specs.Judged.{has, has_never, columns_of}

-- only numbers below n are in the set
abbrev pub OnlyBelow : ℕ → ℕ → Type 0
OnlyBelow n s = (k : ℕ) → n ≤ k → bit_at s k ≡ 0

-- the columns from number j on that are in the set, each with its number and its result
abbrev pub columns_in : {R : Type 0} → ℕ → ℕ → List R → List (ℕ × R)
columns_in s j [] = []
columns_in s j (x ∷ xs) = let rest = columns_in s (suc j) xs in cond (has s j) ((j, x) ∷ rest) rest

pub bit-has : (s k : ℕ) (b : Bool) → bit_at s k ≡ bit b → has s k ≡ b
bit-has s k true h = ap (λ n. n == 1) h
bit-has s k false h = ap (λ n. n == 1) h

pub has-bit : (s k : ℕ) → bit_at s k ≡ bit (has s k)
has-bit s k = elim (cases_eq (bit_at s k) 0) [
  | inl h ↦ h ∙ sym (ap (λ n. bit (n == 1)) h)
  | inr h ↦ let one : bit_at s k ≡ 1 = omega (arith, bit_at-lt s k) in one ∙ sym (ap (λ n. bit (n == 1)) one)
]

-- the columns of a set have its bits below 16, and no others
column_bit : (s k : ℕ) → k < 16 → bit_at (columns_of s) k ≡ bit_at s k
column_bit s k h =
    let both = bit_at_and s 65535 k in
    let one = bit_at_ones 16 k h in
    omega (arith, both, one, bit_at-lt s k)

no_column_bit : (s k : ℕ) → 16 ≤ k → bit_at (columns_of s) k ≡ 0
no_column_bit s k h =
    let both = bit_at_and s 65535 k in
    let none = bit_at_ones_above 16 k h in
    omega (arith, both, none)

-- no bit below the lowest
pub below_lowest : (u k : ℕ) → u < 2 ^ 32 → k < trailing_zeros w32 u → bit_at u k ≡ 0
below_lowest u k fits h = elim (cases_eq u 0) [
  | inl z ↦ ap (λ n. bit_at n k) z ∙ bit_at-zero k
  | inr z ↦ (bit_at-trailing_zeros w32 u (omega (arith, z)) fits).2 k h
]

trailing-zero : trailing_zeros w32 0 ≡ 32
unfolding count_trailing_zeros
trailing-zero = refl

pub at_lowest : (u : ℕ) → u < 2 ^ 32 → trailing_zeros w32 u < 32 → bit_at u (trailing_zeros w32 u) ≡ 1
at_lowest u fits h = elim (cases_eq u 0) [
  | inl z ↦ let most : trailing_zeros w32 u ≡ 32 = ap (trailing_zeros w32) z ∙ trailing-zero in absurd (omega arith)
  | inr z ↦ (bit_at-trailing_zeros w32 u (omega (arith, z)) fits).1
]

module _ {V C : Type 0} (m : Meaning V C) (ws : List Row) (e : Encounter V) where
  met-some : (f : ℕ → List (Entry C)) (k i j : ℕ) → i ≤ j → j < i + k → met m ws (f j) e ≡ true → some_met m ws (map f (range_with_len i k)) e ≡ true
  met-some f zero i j low high is = absurd (omega arith)
  met-some f (suc k) i j low high is = elim (cases_lt i j) [
    | inl after ↦ or_right _ _ (met-some f k (i + 1) j (omega arith) (omega arith) is)
    | inr at ↦ let same : i ≡ j = omega arith in or_left _ _ (ap (λ x. met m ws (f x) e) same ∙ is)
  ]

  met-none : (f : ℕ → List (Entry C)) (k i : ℕ) → ((j : ℕ) → i ≤ j → j < i + k → met m ws (f j) e ≡ false) → some_met m ws (map f (range_with_len i k)) e ≡ false
  met-none f zero i all = refl
  met-none f (suc k) i all = or_from _ _ (all i (omega arith) (omega arith)) (met-none f k (i + 1) (λ j low high. all j (omega arith) (omega arith)))

  module _ (es : List (Entry C)) (w : ℕ) where
    columns-met : (u n : ℕ) → ((j : ℕ) → j < n → has u j ≡ met m ws (column_of es w j) e) → {R : Type 0} (j : ℕ) (xs : List R) → j + length xs ≤ n
        → columns_in u j xs ≡ columns_met m j ws (columns_from es w j xs) e
    columns-met u n all j [] long = refl
    columns-met u n all j (x ∷ xs) long =
        ap (λ b. cond b ((j, x) ∷ columns_in u (suc j) xs) (columns_in u (suc j) xs)) (all j (omega arith))
        ∙ ap (λ ks. cond (met m ws (column_of es w j) e) ((j, x) ∷ ks) ks) (columns-met u n all (suc j) xs (omega arith))

    module _ (n : Counts) (few : Bounded n) (s : ℕ) (h : HasMet m n ws (λ k. column_of es w k) s e) where
      column-has : (j : ℕ) → j < n.columns → has (columns_of s) j ≡ met m ws (column_of es w j) e
      column-has j used =
          bit-has (columns_of s) j _ (column_bit s j (omega (arith, few.columns)) ∙ h j (omega (arith, few.columns)))
          ∙ ap (λ b. cond b (nat_lt j n.columns) (nat_lt (j - 16) n.nevers) && met m ws (column_of es w j) e) (lt-ltb j 16 (omega (arith, few.columns)))
          ∙ ap (λ b. b && met m ws (column_of es w j) e) (lt-ltb j n.columns used)

      never-has : (j : ℕ) → j < 8 → has s (16 + j) ≡ (nat_lt j n.nevers && met m ws (column_of es w (16 + j)) e)
      never-has j below =
          let less : 16 + j - 16 ≡ j = omega arith in
          bit-has s (16 + j) _ (h (16 + j) (omega arith))
          ∙ ap (λ b. cond b (nat_lt (16 + j) n.columns) (nat_lt (16 + j - 16) n.nevers) && met m ws (column_of es w (16 + j)) e) (le-ltb (16 + j) 16 (omega arith))
          ∙ ap (λ i. nat_lt i n.nevers && met m ws (column_of es w (16 + j)) e) less

      -- the columns of the set are those in use
      pub columns-below : OnlyBelow n.columns (columns_of s)
      columns-below k out = elim (cases_lt k 16) [
        | inl low ↦ column_bit s k low ∙ h k (omega arith)
            ∙ ap (λ b. bit (cond b (nat_lt k n.columns) (nat_lt (k - 16) n.nevers) && met m ws (column_of es w k) e)) (lt-ltb k 16 low)
            ∙ ap (λ b. bit (b && met m ws (column_of es w k) e)) (le-ltb k n.columns out)
        | inr high ↦ no_column_bit s k high
      ]

      -- and they are met
      pub columns-in_set : {R : Type 0} (xs : List R) → length xs ≤ n.columns → columns_in (columns_of s) 0 xs ≡ columns_met m 0 ws (columns_from es w 0 xs) e
      columns-in_set xs long = columns-met (columns_of s) n.columns column-has 0 xs (omega arith)

      never-unmet : bit_and s 16711680 ≡ 0 → (j : ℕ) → j < n.nevers → met m ws (column_of es w (16 + j)) e ≡ false
      never-unmet z j used =
          let both = bit_at_and s 16711680 (16 + j) in
          let one = bit_at_mask_inside 16 24 (16 + j) (omega arith) (omega (arith, few.nevers)) in
          let none = ap (λ x. bit_at x (16 + j)) z ∙ bit_at-zero (16 + j) in
          let clear : bit_at s (16 + j) ≡ 0 = omega (arith, both, one, none, bit_at-lt s (16 + j)) in
          ap (λ b. b && met m ws (column_of es w (16 + j)) e) (sym (lt-ltb j n.nevers used)) ∙ sym (never-has j (omega (arith, few.nevers))) ∙ bit-has s (16 + j) false clear

      never-met : (bit_and s 16711680 ≡ 0 → ⊥) → some_met m ws (map (λ j. column_of es w (16 + j)) (range_with_len 0 n.nevers)) e ≡ true
      never-met z =
          let v = bit_and s 16711680 in
          let less : v < 2 ^ 32 = omega (arith, and_le_r s 16711680) in
          let t = trailing_zeros w32 v in
          let low = bit_at-trailing_zeros w32 v (omega (arith, z)) less in
          let both = bit_at_and s 16711680 t in
          let from : 16 ≤ t = elim (cases_lt t 16) [ inl h ↦ absurd (omega (arith, both, low.1, bit_at_mask_below 16 24 t h)) | inr h ↦ h ] in
          let to : t < 24 = elim (cases_lt t 24) [ inl h ↦ h | inr h ↦ absurd (omega (arith, both, low.1, bit_at_mask_above 16 24 t h)) ] in
          let j = t - 16 in
          let here : t ≡ 16 + j = omega arith in
          let set : bit_at s t ≡ 1 = omega (arith, both, low.1, bit_at-lt s t) in
          let holds = and_parts (nat_lt j n.nevers) (met m ws (column_of es w (16 + j)) e) (sym (never-has j (omega arith)) ∙ bit-has s (16 + j) true (ap (bit_at s) (sym here) ∙ set)) in
          let used = ltb-true j n.nevers holds.0 in
          met-some (λ j. column_of es w (16 + j)) n.nevers 0 j (omega arith) (omega arith) holds.1

      -- the set has a never just where one is met
      pub nevers-in_set : some_met m ws (map (λ j. column_of es w (16 + j)) (range_with_len 0 n.nevers)) e ≡ has_never s
      nevers-in_set = elim (cases_eq (bit_and s 16711680) 0) [
        | inl z ↦ met-none (λ j. column_of es w (16 + j)) n.nevers 0 (λ j low high. never-unmet z j (omega arith)) ∙ sym (ap not (eq-eqb (bit_and s 16711680) 0 z))
        | inr z ↦ never-met z ∙ sym (ap not (ne_eqb (bit_and s 16711680) 0 z))
      ]
