-- Counting starts, and products of their numbers up to the limit. Assumes nothing.
use Rattle.std.proofs.Common.{◌≡◌, ℕ, suc, ◌+◌, ◌*◌, ◌<◌, ◌≤◌, leb, List, [], ◌∷◌, ◌++◌, map, length, get_or, drop, Some, None, Option, sym, refl, ap, subst, ◌∙◌, mul_assoc, mul-le-mul_left, mul-one, add-one, arith}
use Rattle.std.proofs.lemmas.Bool.{cond-true, cond-false, cond_both, le-leb, lt-leb, leb-true, leb-false}
use Rattle.kinds.specs.Meaning.{Meaning, Lawful}
use Rattle.items.specs.declared.Scope.{Scope}
use Rattle.items.specs.declared.Scope.TheVariants.{Flight, Pair}
use Rattle.items.specs.declared.Quantity.{Quantity}
use Rattle.tables.specs.Words.{product}
use Rattle.items.specs.declared.Side.TheVariants.{OfA}
use Rattle.tables.specs.Contents.{Contents, Place, places_from, sides}
use Rattle.tables.specs.Starts.{onward, next, starts_on, starts_at}
use Rattle.tables.specs.Bridges.{taken}
use Rattle.tables.specs.Issues.{limit}
use Rattle.tables.proofs.Lists.{none-some, some_same}
use Rattle.tables.proofs.Covering.{starts-on}
use Rattle.std.proofs.lemmas.List.{drop_more}
use Rattle.starts.specs.Counted.{within_limit, starts_of}
use Rattle.std.specs.Fn.{CalledAt}
use Rattle.std.specs.Iterator.Adapters.{successors_next, successors_callee, successors_steps}
use Rattle.std.specs.declared.iter.Successors.{Successors}
use Rattle.std.proofs.lemmas.Iterator.{YieldsList}
use Rattle.std.proofs.lemmas.Iterator.Splits.{YieldsList-from_shown_while}
use denote.Param.Members.{Mut}
use denote.Ref.{Bor}

-- a chain in which each value gives the next start yields the starts
module _ {V C F : Type 0} (m : Meaning V C) (law : Lawful m) (xs : List C) (z : V) (g : Mut F (Bor V × Unit {0}) (Option V)) (f : F) where
  abbrev Gives : Type 0
  Gives = (x : V) (r : Option V) (q : F) → CalledAt g f x r q → (q ≡ f) × (r ≡ next m xs z x)

  abbrev left_in : Successors V F → List V
  left_in s = onward (starts_on m xs z) (successors_next s)

  left-none : (s t : Successors V F) → successors_callee s ≡ f → successors_steps g s None t → length (left_in s) ≡ 0
  left-none s t p k = sym (ap (λ o. length (onward (starts_on m xs z) o)) k.0)

  left-some : Gives → (s : Successors V F) (x : V) (t : Successors V F) → successors_callee s ≡ f → successors_steps g s (Some x) t → (successors_callee t ≡ f) × (left_in s ≡ x ∷ left_in t)
  left-some gives s x t p k =
      let h = gives x (successors_next t) (successors_callee t) (subst (λ e. CalledAt g e x (successors_next t) (successors_callee t)) p k.1) in
      (h.0, sym (ap (onward (starts_on m xs z)) k.0) ∙ starts-on m law xs z x ∙ sym (ap (λ o. x ∷ onward (starts_on m xs z) o) h.1))

  pub starts-yielded : (s : Successors V F) (v : V) → successors_next s ≡ Some v → successors_callee s ≡ f → Gives → YieldsList (successors_steps g) (λ x. x) s (starts_on m xs z v)
  starts-yielded s v first closure gives =
      subst (λ o. YieldsList (successors_steps g) (λ x. x) s (onward (starts_on m xs z) o)) first
      (YieldsList-from_shown_while (successors_steps g) (λ x. x) left_in (λ s. successors_callee s ≡ f) left-none (left-some gives) s closure)

module _ {V C R : Type 0} (m : Meaning V C) (c : Contents V C R) (i : ℕ) where
  pub starts-some : (v z : V) → 1 ≤ starts_of m c i v z
  unfolding starts_of
  starts-some v z = omega arith

grow : (x y : ℕ) → 1 ≤ y → x ≤ x * y
grow x y h = let a : x * 1 ≤ x * y = mul-le-mul_left x h in omega (arith, mul-one x)

some_more : (x y : ℕ) → 1 ≤ x → 1 ≤ y → 1 ≤ x * y
some_more x y h k = omega (arith, grow x y k)

pub taken-some : (n : ℕ) (s : Scope) → 1 ≤ n → 1 ≤ taken s n
taken-some n Flight h = some_more n n h h
taken-some n Pair h = h

-- what is told of a number
pub told : (n : ℕ) → n ≤ limit → Some n ≡ within_limit n
told n h = sym (cond-true (leb n limit) (Some n) None (le-leb n limit h))

pub untold : (n : ℕ) → limit < n → None ≡ within_limit n
untold n h = sym (cond-false (leb n limit) (Some n) None (lt-leb n limit h))

pub told_is : (n x : ℕ) → Some n ≡ within_limit x → (n ≡ x) × (x ≤ limit)
told_is n x e = cond_both (leb x limit) (Some x) None (λ o. Some n ≡ o → (n ≡ x) × (x ≤ limit)) (λ h k. (some_same n x k, leb-true x limit h)) (λ h k. none-some n (sym k)) e

pub untold-is : (x : ℕ) → None ≡ within_limit x → limit < x
untold-is x e = cond_both (leb x limit) (Some x) None (λ o. None ≡ o → limit < x) (λ h k. none-some x k) (λ h k. leb-false x limit h) e

-- one more factor that is not zero
pub past : (x y : ℕ) → 1 ≤ y → limit < x → limit < x * y
past x y h k = omega (arith, grow x y h)

-- a product p with one more factor h, of which l is left, and k after it
module _ (p h k : ℕ) {l z : ℕ} (is : l ≡ h * k) (inv : p * l ≡ z) where
  regrouped : p * h * k ≡ z
  regrouped = mul_assoc p h k ∙ sym (ap (λ n. p * n) is) ∙ inv

  pub factor-told : (more : ℕ) → Some more ≡ within_limit (p * h) → (more ≤ limit) × (more * k ≡ z)
  factor-told more e =
      let t = told_is more (p * h) e in
      let b : more ≤ limit = omega (arith, t.0, t.1) in
      (b, ap (λ n. n * k) t.0 ∙ regrouped)

  pub factor-over : 1 ≤ k → None ≡ within_limit (p * h) → None ≡ within_limit z
  factor-over some e =
      let a : limit < p * h * k = past (p * h) k some (untold-is (p * h) e) in
      untold z (omega (arith, regrouped))

-- the places of one quantity
pub quantity-twice : (p l once : ℕ) (s : Scope) {o : Option ℕ} → s ≡ Flight → Some once ≡ within_limit (p * l) → o ≡ within_limit (once * l) → o ≡ within_limit (p * taken s l)
quantity-twice p l once s is e f =
    f ∙ ap within_limit (ap (λ k. k * l) (told_is once (p * l) e).0 ∙ mul_assoc p l l ∙ sym (ap (λ s. p * taken s l) is))

-- the places of the quantities from number i on
module _ {V C R : Type 0} (m : Meaning V C) (c : Contents V C R) where
  abbrev pub from : ℕ → List (Quantity V) → ℕ
  from i qs = product (map (λ p. length (starts_at m c p)) (places_from i qs))

  from_at : (i : ℕ) (q : Quantity V) (s : Scope) (ps : List (Place V)) → product (map (λ p. length (starts_at m c p)) (map (λ s. record { side = s; number = i; quantity = q }) (sides s) ++ ps)) ≡ taken s (starts_of m c i q.least q.greatest) * product (map (λ p. length (starts_at m c p)) ps)
  unfolding starts_of
  from_at i q Flight ps = let l = length (starts_at m c (record { side = OfA; number = i; quantity = q })) in sym (mul_assoc l l (product (map (λ p. length (starts_at m c p)) ps)))
  from_at i q Pair ps = refl

  pub from-here : (i : ℕ) (q : Quantity V) (qs : List (Quantity V)) → from i (q ∷ qs) ≡ taken q.scope (starts_of m c i q.least q.greatest) * from (suc i) qs
  from-here i q qs = from_at i q q.scope (places_from (suc i) qs)

  pub from_some : (i : ℕ) (qs : List (Quantity V)) → 1 ≤ from i qs
  from_some i [] = omega arith
  from_some i (q ∷ qs) =
      let l = starts_of m c i q.least q.greatest in
      let a : 1 ≤ taken q.scope l * from (suc i) qs = some_more (taken q.scope l) (from (suc i) qs) (taken-some l q.scope (starts-some m c i q.least q.greatest)) (from_some (suc i) qs) in
      omega (arith, from-here i q qs)

  module _ (qs : List (Quantity V)) where
    abbrev pub left : ℕ → ℕ
    left i = from i (drop i qs)

    abbrev here : ℕ → Quantity V → ℕ
    here i q = taken q.scope (starts_of m c i q.least q.greatest)

    left_here : (i : ℕ) (q : Quantity V) → i < length qs → q ≡ get_or qs i q → left i ≡ here i q * left (i + 1)
    left_here i q h is =
        ap (from i) (drop_more qs i q h ∙ ap (λ q. q ∷ drop (i + 1) qs) (sym is)) ∙ from-here i q (drop (i + 1) qs) ∙ ap (λ k. here i q * from k (drop (i + 1) qs)) (sym (add-one i))

    pub counted-here : (i : ℕ) (q : Quantity V) (p more z : ℕ) → i < length qs → q ≡ get_or qs i q → Some more ≡ within_limit (p * here i q) → p * left i ≡ z → (more ≤ limit) × (more * left (i + 1) ≡ z)
    counted-here i q p more z h is e inv = factor-told p (here i q) (left (i + 1)) (left_here i q h is) inv more e

    pub counted-over : (i : ℕ) (q : Quantity V) (p z : ℕ) → i < length qs → q ≡ get_or qs i q → None ≡ within_limit (p * here i q) → p * left i ≡ z → None ≡ within_limit z
    counted-over i q p z h is e inv = factor-over p (here i q) (left (i + 1)) (left_here i q h is) inv (from_some (i + 1) (drop (i + 1) qs)) e
