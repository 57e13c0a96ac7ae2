-- The product of the numbers of marks, each flight quantity's taken twice. Assumes nothing.
use Rattle.std.proofs.Common.{◌≡◌, ℕ, zero, suc, ◌+◌, ◌-◌, ◌*◌, ◌<◌, ◌≤◌, min, List, [], ◌∷◌, length, take, drop, get_or, Some, None, sym, refl, ap, ap₂, ◌∙◌, inl, inr, mul-one, arith}
use Rattle.std.proofs.lemmas.List.{take_all, drop_more, drop_all}
use Rattle.std.proofs.lemmas.Bool.{cases_lt}
use Rattle.kinds.specs.Meaning.{Meaning}
use Rattle.items.specs.declared.Quantity.{Quantity}
use Rattle.items.specs.declared.Entry.{Entry}
use Rattle.tables.specs.Bridges.{taken}
use Rattle.tables.specs.Contents.{Contents}
use Rattle.tables.specs.Starts.{cells_of, starts, count}
use Rattle.tables.specs.Issues.{limit}
use Rattle.sets.specs.declared.Mark.{Mark}
use Rattle.sets.specs.declared.Span.{Span}
use Rattle.sets.specs.Marks.{AllSpanned}
use Rattle.starts.specs.Counted.{starts_of, within_limit}
use Rattle.starts.proofs.Counting.{from, from-here, from_some, told, factor-over}

abbrev pub taken_by : Span → ℕ
taken_by s = taken s.scope (s.to - s.from)

abbrev pub product_of : List Span → ℕ
product_of [] = 1
product_of (s ∷ ss) = taken_by s * product_of ss

pub product-here : (ss : List Span) (i : ℕ) (d : Span) → i < length ss → product_of (drop i ss) ≡ taken_by (get_or ss i d) * product_of (drop (i + 1) ss)
product-here ss i d h = ap product_of (drop_more ss i d h)

-- a list cut off no further than it goes
pub cut-within : {X : Type 0} (n k : ℕ) (xs : List X) → k ≡ min n (length xs) → take n xs ≡ take k xs
cut-within n k xs is = elim (cases_lt n (length xs)) [
  | inl lt ↦ let e : n ≡ k = omega arith in ap (λ n. take n xs) e
  | inr ge ↦ let le : length xs ≤ k = omega arith in take_all n xs ge ∙ sym (take_all k xs le)
]

-- the spans of the marks of all starts
module _ {V C R : Type 0} (m : Meaning V C) (c : Contents V C R) (column : ℕ → List (Entry C)) (marks : List (Mark V)) where
  product-is : (i : ℕ) (qs : List (Quantity V)) (ss : List Span) → AllSpanned m c column marks i qs ss → product_of ss ≡ from m c i qs
  unfolding starts_of
  product-is i [] [] h = refl
  product-is i [] (s ∷ ss) h = absurd h
  product-is i (q ∷ qs) [] h = absurd h
  product-is i (q ∷ qs) (s ∷ ss) h =
      let n : s.to - s.from ≡ length (starts m (cells_of c i) q) = omega (arith, h.0.counted) in
      ap₂ ◌*◌ (ap₂ taken h.0.scope n) (product-is (suc i) qs ss h.1) ∙ sym (from-here m c i q qs)

  product-some : (j i : ℕ) (qs : List (Quantity V)) (ss : List Span) → AllSpanned m c column marks i qs ss → 1 ≤ product_of (drop j ss)
  product-some zero i qs ss h = omega (arith, product-is i qs ss h, from_some m c i qs)
  product-some (suc j) i [] [] h = omega arith
  product-some (suc j) i [] (s ∷ ss) h = absurd h
  product-some (suc j) i (q ∷ qs) [] h = absurd h
  product-some (suc j) i (q ∷ qs) (s ∷ ss) h = product-some j (suc i) qs ss h.1

  module _ (ss : List Span) (h : AllSpanned m c column marks 0 c.quantities ss) (i p : ℕ) (inv : p * product_of (drop i ss) ≡ product_of ss) where
    -- a product past the limit stays past it
    pub count-over : (d : Span) → i < length ss → None ≡ within_limit (p * taken_by (get_or ss i d)) → None ≡ within_limit (count m c)
    count-over d lt e =
        factor-over p (taken_by (get_or ss i d)) (product_of (drop (i + 1) ss)) (product-here ss i d lt) inv (product-some (i + 1) 0 c.quantities ss h) e
        ∙ ap within_limit (product-is 0 c.quantities ss h)

    pub count-told : length ss ≤ i → p ≤ limit → Some p ≡ within_limit (count m c)
    count-told end few =
        let whole : p ≡ product_of ss = sym (mul-one p) ∙ sym (ap (λ ss. p * product_of ss) (drop_all i ss end)) ∙ inv in
        told p few ∙ ap within_limit (whole ∙ product-is 0 c.quantities ss h)
