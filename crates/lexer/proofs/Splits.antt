-- Where a text is parted, in the words of the library, and a list of names part by part. Assumes nothing.
use Rattle.std.proofs.Common.{◌≡◌, ℕ, ◌+◌, ◌*◌, ◌^◌, ◌<◌, ◌≤◌, suc, true, false, cond, not, eqb, List, [], ◌∷◌, length, get_or, drop, Some, None, sym, refl, ap, ◌∙◌, subst, pow-suc, add-one, arith}
use native.Mathlib.Nat.{pow-le-pow_right}
use Rattle.std.proofs.lemmas.List.{drop_more, drop_all}
use Rattle.std.proofs.lemmas.Bool.{cond-false, ne_eqb}
use Rattle.std.specs.List.{prefix_len, slice_split, onto_first}
use Rattle.text.specs.Fields.{up_to, in_front, parted}
use Rattle.text.specs.Cells.{chain, member, members, listed}

pub up_to-prefix : (sep : ℕ) (xs : List ℕ) → up_to sep xs ≡ prefix_len (λ b. not (eqb b sep)) xs
up_to-prefix sep [] = refl
up_to-prefix sep (x ∷ xs) =
    let h = up_to-prefix sep xs in
    elim (eqb x sep) as (λ t. cond t 0 (suc (up_to sep xs)) ≡ cond (not t) (1 + prefix_len (λ b. not (eqb b sep)) xs) 0) [ true ↦ refl | false ↦ omega (arith, h) ]

in_front-onto : (b : ℕ) (ps : List (List ℕ)) → in_front b ps ≡ onto_first b ps
in_front-onto b [] = refl
in_front-onto b (p ∷ ps) = refl

pub parted-split : (sep : ℕ) (bs : List ℕ) → parted sep bs ≡ slice_split (λ b. eqb b sep) bs
parted-split sep [] = refl
parted-split sep (b ∷ bs) =
    let h = parted-split sep bs in
    let f : in_front b (parted sep bs) ≡ onto_first b (slice_split (λ b. eqb b sep) bs) = in_front-onto b (parted sep bs) ∙ ap (onto_first b) h in
    elim (eqb b sep) as (λ t. cond t ([] ∷ parted sep bs) (in_front b (parted sep bs)) ≡ cond t ([] ∷ slice_split (λ b. eqb b sep) bs) (onto_first b (slice_split (λ b. eqb b sep) bs))) [ true ↦ ap (λ l. [] ∷ l) h | false ↦ f ]

-- the parts of a list
abbrev split : List ℕ → List (List ℕ)
split bs = slice_split (λ b. eqb b 44) bs

-- the first `i` names are read: they are `bits`, and all below `from`
abbrev pub Listed : List ℕ → ℕ → ℕ → ℕ → Type 0
Listed bs bits from i = (members from bits (drop i (parted 44 bs)) ≡ listed bs) × (bits < 2 ^ from) × (from ≤ 32)

pub listed-start : (bs : List ℕ) → (length bs ≡ 0 → ⊥) → Listed bs 0 0 0
listed-start bs h = (sym (cond-false _ _ _ (ne_eqb (length bs) 0 h)), omega arith, omega arith)

module _ (bs : List ℕ) (bits from i : ℕ) (so : Listed bs bits from i) (part : List ℕ) (near : i < length (split bs)) (is : part ≡ get_or (split bs) i part) where
  h : i < length (parted 44 bs)
  h = subst (λ ps. i < length ps) (sym (parted-split 44 bs)) near

  e : part ≡ get_or (parted 44 bs) i part
  e = is ∙ ap (λ ps. get_or ps i part) (sym (parted-split 44 bs))

  next-is : chain (member from part) (λ n. members (n + 1) (bits + 2 ^ n) (drop (i + 1) (parted 44 bs))) ≡ listed bs
  next-is = ap (λ p. members from bits (p ∷ drop (i + 1) (parted 44 bs))) e ∙ ap (members from bits) (sym (drop_more (parted 44 bs) i part h)) ∙ so.0

  -- one more name
  pub listed-more : (n : ℕ) → Some n ≡ member from part → from ≤ n → n < 32 → Listed bs (bits + 2 ^ n) (n + 1) (i + 1)
  listed-more n r low high =
      let k : bits < 2 ^ n = let p : 2 ^ from ≤ 2 ^ n = pow-le-pow_right {n = 2} (omega arith) low in omega (arith, so.1) in
      let d : 2 ^ (n + 1) ≡ 2 ^ n * 2 = rw add-one (pow-suc 2 n) in
      (ap (λ o. chain o (λ m. members (m + 1) (bits + 2 ^ m) (drop (i + 1) (parted 44 bs)))) r ∙ next-is, omega arith, omega arith)

  -- a part that is no name, or none that may stand here
  pub listed-none : None ≡ member from part → None ≡ listed bs
  listed-none r = ap (λ o. chain o (λ m. members (m + 1) (bits + 2 ^ m) (drop (i + 1) (parted 44 bs)))) r ∙ next-is

pub listed-all : (bs : List ℕ) (bits from i : ℕ) → Listed bs bits from i → i ≡ length (split bs) → Some bits ≡ listed bs
listed-all bs bits from i so h = sym (ap (members from bits) (drop_all i (parted 44 bs) (omega (arith, h, ap length (parted-split 44 bs))))) ∙ so.0
