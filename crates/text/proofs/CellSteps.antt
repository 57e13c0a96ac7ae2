-- Cells, step by step.
use Rattle.std.proofs.Common.{◌≡◌, ℕ, ◌+◌, ◌-◌, ◌*◌, ◌^◌, ◌<◌, ◌≤◌, true, cond, eqb, List, length, get_or, take, drop, Some, None, sym, ap, ◌∙◌, pow-suc, add-one, arith}
use native.Mathlib.Nat.{pow-le-pow_right}
use Rattle.std.proofs.lemmas.List.{get_or_past, nil_from_length}
use Rattle.std.proofs.lemmas.Bool.{cond-true, cond-false, ne_eqb, le-leb}
use Rattle.text.specs.Fields.{up_to, parts_from}
use Rattle.text.specs.Cells.{chain, dots, member, members, listed, names, band, unmarked, cell}
use Rattle.text.proofs.Parts.{parts_more, parts_none}

pub dots-past : (bs : List ℕ) → length bs ≤ up_to 46 bs + 1 → None ≡ dots bs
dots-past bs h = sym (ap (λ b. cond (eqb b 46) (Some (up_to 46 bs)) None) (get_or_past bs (up_to 46 bs + 1) 0 h))

-- the names before the place `at` are read: they are `bits`, and all below `from`
abbrev pub Listed : List ℕ → ℕ → ℕ → ℕ → Type 0
Listed bs bits from at = (members from bits (parts_from 44 bs at) ≡ listed bs) × (bits < 2 ^ from) × (from ≤ 32)

module _ (bs : List ℕ) (bits from at to : ℕ) (so : Listed bs bits from at) (h : at ≤ length bs) (e : to ≡ at + up_to 44 (drop at bs)) where
  abbrev part : List ℕ
  part = take (to - at) (drop at bs)

  next-is : chain (member from part) (λ n. members (n + 1) (bits + 2 ^ n) (parts_from 44 bs (to + 1))) ≡ listed bs
  next-is = sym (ap (members from bits) (parts_more 44 bs at to h e)) ∙ so.0

  -- one more name
  pub listed_more : (n : ℕ) → Some n ≡ member from part → from ≤ n → n < 32 → Listed bs (bits + 2 ^ n) (n + 1) (to + 1)
  listed_more n r low high =
      let k : bits < 2 ^ n = let p : 2 ^ from ≤ 2 ^ n = pow-le-pow_right {n = 2} (omega arith) low in omega (arith, so.1) in
      let d : 2 ^ (n + 1) ≡ 2 ^ n * 2 = rw add-one (pow-suc 2 n) in
      (ap (λ o. chain o (λ m. members (m + 1) (bits + 2 ^ m) (parts_from 44 bs (to + 1)))) r ∙ next-is, omega arith, omega arith)

  -- a part that is no name, or none that may stand here
  pub listed-none : None ≡ member from part → None ≡ listed bs
  listed-none r = ap (λ o. chain o (λ m. members (m + 1) (bits + 2 ^ m) (parts_from 44 bs (to + 1)))) r ∙ next-is

pub listed-all : (bs : List ℕ) (bits from at : ℕ) → Listed bs bits from at → length bs < at → Some bits ≡ listed bs
listed-all bs bits from at so h = sym (ap (members from bits) (parts_none 44 bs at h)) ∙ so.0

pub listed_start : (bs : List ℕ) → (length bs ≡ 0 → ⊥) → Listed bs 0 0 0
listed_start bs h = (ap (members 0 0) (cond-true _ _ _ (le-leb 0 (length bs) (omega arith))) ∙ sym (cond-false _ _ _ (ne_eqb (length bs) 0 h)), omega arith, omega arith)

pub names-nil : (bs : List ℕ) → length bs ≡ 0 → None ≡ names bs
names-nil bs h = sym (ap names (nil_from_length bs h))

pub unmarked-band : (bs : List ℕ) → (get_or bs 2 0 ≡ 58 → ⊥) → unmarked bs ≡ band true bs
unmarked-band bs ne = cond-false _ _ _ (ne_eqb (get_or bs 2 0) 58 ne)

pub cell_unmarked : (bs : List ℕ) → (get_or bs 0 0 ≡ 33 → ⊥) → (get_or bs 0 0 ≡ 123 → ⊥) → cell bs ≡ unmarked bs
cell_unmarked bs bang brace = cond-false _ _ _ (ne_eqb (get_or bs 0 0) 33 bang) ∙ cond-false _ _ _ (ne_eqb (get_or bs 0 0) 123 brace)
