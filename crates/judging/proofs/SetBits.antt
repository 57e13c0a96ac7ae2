-- The bits of the sets that the code makes, and its loops over them. Assumes nothing.
use Rattle.std.proofs.Common.{◌≡◌, ◌≢◌, ℕ, ◌+◌, ◌-◌, ◌*◌, ◌%◌, ◌^◌, ◌<◌, ◌≤◌, max, Bool, true, false, cond, ◌&&◌, nat_lt, refl, sym, ap, ◌∙◌, arith, inl, inr, ◌⊎◌, pow_mono, w32, add-zero, lit<}
use Rattle.std.specs.Int.{bit_at}
use Rattle.std.specs.Int.RustNames.{bit_or}
use Rattle.std.proofs.Math.Nat.{mod-eq_of_lt}
use Rattle.std.proofs.lemmas.Nat.{one_shl}
use Rattle.std.proofs.lemmas.Nat.Bits.{bit_at-zero, bit_at_or, bit_at_ones, bit_at_ones_above, bit_at_cat_low, bit_at_cat_high, bit_at_set_same, bit_at_set_other}
use Rattle.std.proofs.lemmas.Bool.{cases_lt, cases_order, lt-ltb, le-ltb}
use Rattle.std.proofs.lemmas.Bool.Decides.{nat_tests}
use Rattle.items.specs.declared.Counts.{Counts}
use Rattle.tables.specs.Storage.{Bounded}
use Rattle.sets.specs.Sets.{Has, bit, in_use}

-- the bits of c ones
pub bit_of_ones : (c k : ℕ) → bit_at (2 ^ c - 1) k ≡ bit (nat_lt k c)
bit_of_ones c k = elim (cases_lt k c) [
  | inl h ↦ bit_at_ones c k h ∙ sym (ap bit (lt-ltb k c h))
  | inr h ↦ bit_at_ones_above c k h ∙ sym (ap bit (le-ltb k c h))
]

zero-max : (b : ℕ) → max 0 b ≡ b
zero-max b = omega arith

shifted_ones : (c : ℕ) → c ≤ 16 → 1 * 2 ^ c % 4294967296 - 1 ≡ 2 ^ c - 1
shifted_ones c h = ap (λ n. n - 1) (one_shl c 32 (omega arith))

-- the columns and the nevers in use
pub has_in_use : (n : Counts) → Bounded n → Has (bit_or ((1 * 2 ^ n.nevers % 4294967296 - 1) * 65536 % 4294967296) (1 * 2 ^ n.columns % 4294967296 - 1)) (in_use n)
has_in_use n b = λ k h.
    let few : 2 ^ n.nevers ≤ 2 ^ 8 = pow_mono b.nevers in
    let fits : (2 ^ n.nevers - 1) * 65536 < 4294967296 = omega arith in
    let high = ap (λ x. x * 65536 % 4294967296) (shifted_ones n.nevers (omega (arith, b.nevers))) ∙ mod-eq_of_lt fits ∙ sym (add-zero ((2 ^ n.nevers - 1) * 65536)) in
    let parts = bit_at_or ((1 * 2 ^ n.nevers % 4294967296 - 1) * 65536 % 4294967296) (1 * 2 ^ n.columns % 4294967296 - 1) k
    ∙ ap (λ x. max (bit_at x k) (bit_at (1 * 2 ^ n.columns % 4294967296 - 1) k)) high
    ∙ ap (λ x. max (bit_at ((2 ^ n.nevers - 1) * 65536 + 0) k) (bit_at x k)) (shifted_ones n.columns b.columns)
    ∙ ap (λ x. max (bit_at ((2 ^ n.nevers - 1) * 65536 + 0) k) x) (bit_of_ones n.columns k) in
    elim (cases_lt k 16) [
      | inl low ↦ parts ∙ ap (λ x. max x (bit (nat_lt k n.columns))) (bit_at_cat_low (2 ^ n.nevers - 1) 16 0 k low ∙ bit_at-zero k) ∙ zero-max (bit (nat_lt k n.columns)) ∙ ap (λ t. bit (cond t (nat_lt k n.columns) (nat_lt (k - 16) n.nevers))) (sym (lt-ltb k 16 low))
      | inr high ↦ parts ∙ grind (arith, nat_tests, bit_at_cat_high (2 ^ n.nevers - 1) 16 0 k (lit< tt) high, bit_of_ones n.nevers (k - 16))
    ]

apart : (j i : ℕ) → (j < i) ⊎ (i < j) → j ≢ i
apart j i h = λ e. elim h [ inl below ↦ omega arith | inr above ↦ omega arith ]

next_below : (j i : ℕ) → (j < i) ⊎ (i < j) → nat_lt j i ≡ nat_lt j (i + 1)
next_below j i h = elim h [
  | inl below ↦ lt-ltb j i below ∙ sym (lt-ltb j (i + 1) (omega arith))
  | inr above ↦ le-ltb j i (omega arith) ∙ sym (le-ltb j (i + 1) (omega arith))
]

and-false : (b : Bool) → (b && false) ≡ false
and-false true = refl
and-false false = refl

-- a loop that puts i into s where p holds of it, for the numbers below i so far
module _ (p : ℕ → Bool) (s i : ℕ) (so_far : (j : ℕ) → bit_at s j ≡ bit (nat_lt j i && p j)) where
  pub bit_kept : p i ≡ false → (j : ℕ) → bit_at s j ≡ bit (nat_lt j (i + 1) && p j)
  bit_kept out j = elim (cases_order j i) [
    | inl same ↦ so_far j ∙ ap (λ b. bit (b && p j)) (le-ltb j i (omega arith)) ∙ sym (ap (λ b. bit (nat_lt j (i + 1) && b)) (ap p same ∙ out) ∙ ap bit (and-false (nat_lt j (i + 1))))
    | inr other ↦ so_far j ∙ ap (λ b. bit (b && p j)) (next_below j i other)
  ]

  pub bit_set : i < 32 → p i ≡ true → (j : ℕ) → bit_at (bit_or s (1 * 2 ^ i % 4294967296)) j ≡ bit (nat_lt j (i + 1) && p j)
  bit_set inside here j = elim (cases_order j i) [
    | inl same ↦ ap (bit_at (bit_or s (1 * 2 ^ i % 4294967296))) same ∙ bit_at_set_same w32 s i inside ∙ sym (ap (λ b. bit (b && p j)) (lt-ltb j (i + 1) (omega arith)) ∙ ap bit (ap p same ∙ here))
    | inr other ↦ bit_at_set_other w32 s i inside j (apart j i other) ∙ so_far j ∙ ap (λ b. bit (b && p j)) (next_below j i other)
  ]
