-- A set with one more column. Assumes nothing.
use Rattle.std.proofs.Common.{◌≡◌, ℕ, ◌+◌, ◌*◌, ◌^◌, ◌%◌, ◌<◌, ◌≤◌, max, bit_or, Bool, true, false, cond, eqb, sym, refl, ap, ◌∙◌, inl, inr, zero-mul, arith}
use Rattle.std.specs.Int.{bit_at}
use mir.Syntax.{w32}
use mir.Val.{bool_byte}
use Rattle.std.proofs.lemmas.Bool.Decides.{eqb_tells}
use Rattle.std.proofs.lemmas.Nat.Bits.{bit_at-lt, bit_at-zero, bit_at_or, bit_at_set_same, bit_at_set_other}
use Rattle.sets.specs.Sets.{bit, Has}
use Rattle.marks.specs.Joins.{WithToo}

max-one : (a : ℕ) → a < 2 → 1 ≡ max a 1
max-one a h = omega arith

max-zero : (a : ℕ) → a ≡ max a 0
max-zero a = omega arith

zero-max : (a : ℕ) → max 0 a ≡ a
zero-max a = omega arith

one-set : (s j k : ℕ) → j < 32 → bit_at (bit_or s (1 * 2 ^ j % 4294967296)) k ≡ max (bit_at s k) (cond (eqb k j) 1 0)
one-set s j k h = elim (eqb_tells k j) [
  | inl e ↦ ap (bit_at (bit_or s (1 * 2 ^ j % 4294967296))) e.1 ∙ bit_at_set_same w32 s j h ∙ max-one (bit_at s k) (bit_at-lt s k) ∙ sym (ap (λ b. max (bit_at s k) (cond b 1 0)) e.0)
  | inr e ↦ bit_at_set_other w32 s j h k e.1 ∙ max-zero (bit_at s k) ∙ sym (ap (λ b. max (bit_at s k) (cond b 1 0)) e.0)
]

none-set : (s k : ℕ) (b : Bool) → bit_at (bit_or s 0) k ≡ max (bit_at s k) (cond b 0 0)
none-set s k true = bit_at_or s 0 k ∙ ap (max (bit_at s k)) (bit_at-zero k)
none-set s k false = bit_at_or s 0 k ∙ ap (max (bit_at s k)) (bit_at-zero k)

pub with-too : (s j n : ℕ) (b : Bool) → j < 32 → n ≡ bit b → WithToo s j b (bit_or s (n * 2 ^ j % 4294967296))
with-too s j n true h e k = ap (λ n. bit_at (bit_or s (n * 2 ^ j % 4294967296)) k) e ∙ one-set s j k h
with-too s j n false h e k = ap (λ n. bit_at (bit_or s (n * 2 ^ j % 4294967296)) k) e ∙ ap (λ a. bit_at (bit_or s (a % 4294967296)) k) (zero-mul (2 ^ j)) ∙ none-set s k (eqb k j)

-- s has just those columns below i that p holds of
pub record UpTo (i : ℕ) (p : ℕ → Bool) (s : ℕ) : Type 0 where
  pub below : (k : ℕ) → k < i → bit_at s k ≡ bit (p k)
  pub above : (k : ℕ) → i ≤ k → bit_at s k ≡ 0

pub up-none : (p : ℕ → Bool) → UpTo 0 p 0
up-none p = record { below = λ k h. absurd (omega arith); above = λ k h. bit_at-zero k }

module _ (p : ℕ → Bool) (i s t : ℕ) (b : Bool) (inv : UpTo i p s) (is : b ≡ p i) (too : WithToo s i b t) where
  up-at : (k : ℕ) → k ≡ i → bit_at t k ≡ bit (p k)
  up-at k e = too k ∙ ap (λ a. max a (cond (eqb k i) (bit b) 0)) (inv.above k (omega arith)) ∙ zero-max (cond (eqb k i) (bit b) 0) ∙ elim (eqb_tells k i) [
    | inl h ↦ ap (λ c. cond c (bit b) 0) h.0 ∙ ap bit is ∙ sym (ap (λ k. bit (p k)) h.1)
    | inr h ↦ absurd (h.1 e)
  ]

  up-off : (k : ℕ) → (k ≡ i → ⊥) → bit_at t k ≡ bit_at s k
  up-off k ne = too k ∙ elim (eqb_tells k i) [
    | inl h ↦ absurd (ne h.1)
    | inr h ↦ ap (λ c. max (bit_at s k) (cond c (bit b) 0)) h.0 ∙ sym (max-zero (bit_at s k))
  ]

  up-below : (k : ℕ) → k < i + 1 → bit_at t k ≡ bit (p k)
  up-below k h = elim (eqb_tells k i) [
    | inl e ↦ up-at k e.1
    | inr e ↦ up-off k e.1 ∙ inv.below k (omega arith)
  ]

  pub up-more : UpTo (i + 1) p t
  up-more = record { below = up-below; above = λ k h. up-off k (λ e. omega arith) ∙ inv.above k (omega arith) }

pub up-all : (p : ℕ → Bool) (i s : ℕ) → 24 ≤ i → UpTo i p s → Has s p
up-all p i s h inv k below = inv.below k (omega arith)

pub byte-bit : (b : Bool) → bool_byte b ≡ bit b
byte-bit true = refl
byte-bit false = refl
