-- What `all`, `any` and `find` answer over a chain whose list is known, where the closure computes a test. Assumes nothing.
use Rattle.std.proofs.Common.{◌||◌, find, cond, Some, None, ◌≡◌, map, ℕ, zero, suc, ◌<◌, Bool, true, false, ◌&&◌, List, [], ◌∷◌, length, Option, sym, refl, ap, ◌∙◌, ap₂, arith}
use Rattle.std.specs.Bool.{MatchBool}
use Rattle.std.specs.Option.{MatchOption}
use denote.Ref.{Bor}
use Rattle.std.specs.List.{AllWithin, HoldsAt}
use Rattle.std.specs.Fn.{Called, CalledAt}
use Rattle.std.specs.Iterator.{ChecksAll, ChecksAny, FindsItem}
use Rattle.std.proofs.lemmas.Iterator.{YieldsList, cases_from_all, cases_from_any, first_from_find}
use denote.Param.Members.{Mut}
use Rattle.tables.specs.Words.{all_of}

all-yes : {X : Type 0} (p : X → Bool) (xs : List X) → AllWithin (λ x. p x ≡ true) xs 0 (length xs) → all_of p xs ≡ true
all-yes p [] h = refl
all-yes p (x ∷ xs) h = ap₂ ◌&&◌ (h 0 x (omega arith) (omega arith)) (all-yes p xs (λ k d low below. h (suc k) d (omega arith) (omega arith)))

and-false : (b : Bool) → (b && false) ≡ false
and-false true = refl
and-false false = refl

one-no : {X : Type 0} (p : X → Bool) (xs : List X) (k : ℕ) → k < length xs → HoldsAt (λ x. p x ≡ false) xs k → all_of p xs ≡ false
one-no p [] k h n = absurd (omega arith)
one-no p (x ∷ xs) zero h n = ap (λ b. b && all_of p xs) (n x)
one-no p (x ∷ xs) (suc k) h n = ap (λ b. p x && b) (one-no p xs k (omega arith) (λ d. n d)) ∙ and-false (p x)

told : {X : Type 0} (p : X → Bool) (xs : List X) (r : Bool) → MatchBool r (AllWithin (λ x. p x ≡ true) xs 0 (length xs)) ((k : ℕ) × (k < length xs) × HoldsAt (λ x. p x ≡ false) xs k) → r ≡ all_of p xs
told p xs true h = sym (all-yes p xs h)
told p xs false h = sym (one-no p xs h.0 h.1 h.2)

module _ {S A B F : Type 0} {steps : S → Option A → S → Type 0} {v : A → B} {g : Mut F (A × Unit {0}) Bool} {s : S} {all : List B} (p : B → Bool) where
  pub all_of_chain : (u : S) (f : F) (r : Bool) → ChecksAll steps g s f r u → YieldsList steps v s all
      → ((x : A) (b : Bool) (q : F) → Called g f (x, tt) b q → (q ≡ f) × (b ≡ p (v x))) → r ≡ all_of p all
  all_of_chain u f r ran e acts = told p all r (cases_from_all u f r (λ x. p x ≡ true) (λ x. p x ≡ false) ran e
      (λ x q k. ((acts x true q k).0, sym (acts x true q k).1)) (λ x q k. sym (acts x false q k).1))

-- does some element pass
abbrev pub any_of : {X : Type 0} → (X → Bool) → List X → Bool
any_of p [] = false
any_of p (x ∷ xs) = p x || any_of p xs

all-no : {X : Type 0} (p : X → Bool) (xs : List X) → AllWithin (λ x. p x ≡ false) xs 0 (length xs) → any_of p xs ≡ false
all-no p [] h = refl
all-no p (x ∷ xs) h = ap₂ ◌||◌ (h 0 x (omega arith) (omega arith)) (all-no p xs (λ k d low below. h (suc k) d (omega arith) (omega arith)))

or-true : (b : Bool) → (b || true) ≡ true
or-true true = refl
or-true false = refl

one-yes : {X : Type 0} (p : X → Bool) (xs : List X) (k : ℕ) → k < length xs → HoldsAt (λ x. p x ≡ true) xs k → any_of p xs ≡ true
one-yes p [] k h n = absurd (omega arith)
one-yes p (x ∷ xs) zero h n = ap (λ b. b || any_of p xs) (n x)
one-yes p (x ∷ xs) (suc k) h n = ap (λ b. p x || b) (one-yes p xs k (omega arith) (λ d. n d)) ∙ or-true (p x)

told-any : {X : Type 0} (p : X → Bool) (xs : List X) (r : Bool) → MatchBool r ((k : ℕ) × (k < length xs) × HoldsAt (λ x. p x ≡ true) xs k) (AllWithin (λ x. p x ≡ false) xs 0 (length xs)) → r ≡ any_of p xs
told-any p xs true h = sym (one-yes p xs h.0 h.1 h.2)
told-any p xs false h = sym (all-no p xs h)

module _ {S A B F : Type 0} {steps : S → Option A → S → Type 0} {v : A → B} {g : Mut F (A × Unit {0}) Bool} {s : S} {all : List B} (p : B → Bool) where
  pub any_of_chain : (u : S) (f : F) (r : Bool) → ChecksAny steps g s f r u → YieldsList steps v s all
      → ((x : A) (b : Bool) (q : F) → Called g f (x, tt) b q → (q ≡ f) × (b ≡ p (v x))) → r ≡ any_of p all
  any_of_chain u f r ran e acts = told-any p all r (cases_from_any u f r (λ x. p x ≡ true) (λ x. p x ≡ false) ran e
      (λ x q k. sym (acts x true q k).1) (λ x q k. ((acts x false q k).0, sym (acts x false q k).1)))

none-found : {X : Type 0} (p : X → Bool) (xs : List X) → AllWithin (λ x. p x ≡ false) xs 0 (length xs) → find p xs ≡ None
none-found p [] h = refl
none-found p (x ∷ xs) h = ap (λ b. cond b (Some x) (find p xs)) (h 0 x (omega arith) (omega arith)) ∙ none-found p xs (λ k d low below. h (suc k) d (omega arith) (omega arith))

first-found : {X : Type 0} (p : X → Bool) (xs : List X) (y : X) (k : ℕ) → p y ≡ true → k < length xs → HoldsAt (λ x. x ≡ y) xs k → AllWithin (λ x. p x ≡ false) xs 0 k → find p xs ≡ Some y
first-found p [] y k q h is before = absurd (omega arith)
first-found p (x ∷ xs) y zero q h is before = ap (λ b. cond b (Some x) (find p xs)) (ap p (is x) ∙ q) ∙ ap Some (is x)
first-found p (x ∷ xs) y (suc k) q h is before =
    ap (λ b. cond b (Some x) (find p xs)) (before 0 x (omega arith) (omega arith))
    ∙ first-found p xs y k q (omega arith) (λ d. is d) (λ i d low below. before (suc i) d (omega arith) (omega arith))

told-find : {X : Type 0} (p : X → Bool) (xs : List X) (r : Option X) → MatchOption r (AllWithin (λ x. p x ≡ false) xs 0 (length xs)) (λ x. (p x ≡ true) × (i : ℕ) × (i < length xs) × HoldsAt (λ y. y ≡ x) xs i × AllWithin (λ x. p x ≡ false) xs 0 i) → r ≡ find p xs
told-find p xs None h = sym (none-found p xs h)
told-find p xs (Some x) h = sym (first-found p xs x h.1 h.0 h.2 h.3 h.4)

module _ {S A F : Type 0} {steps : S → Option A → S → Type 0} {g : Mut F (Bor A × Unit {0}) Bool} {s : S} {all : List A} (p : A → Bool) where
  pub find_of_chain : (u : S) (f : F) (r : Option A) → FindsItem steps g s f r u → YieldsList steps (λ x. x) s all
      → ((x : A) (b : Bool) (q : F) → CalledAt g f x b q → (q ≡ f) × (b ≡ p x)) → r ≡ find p all
  find_of_chain u f r ran e acts = told-find p all r (first_from_find u f r (λ x. p x ≡ true) (λ x. p x ≡ false) ran e
      (λ x q k. sym (acts x true q k).1) (λ x q k. ((acts x false q k).0, sym (acts x false q k).1)))

pub all_of-map : {X Y : Type 0} (p : Y → Bool) (f : X → Y) (xs : List X) → all_of (λ x. p (f x)) xs ≡ all_of p (map f xs)
all_of-map p f [] = refl
all_of-map p f (x ∷ xs) = ap (λ b. p (f x) && b) (all_of-map p f xs)
