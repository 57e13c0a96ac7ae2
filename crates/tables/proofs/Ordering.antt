-- The encounters made of starts come in order. Assumes nothing.
use Rattle.std.proofs.Common.{◌≡◌, ℕ, zero, suc, ◌-◌, ◌<◌, true, List, [], ◌∷◌, ◌++◌, Some, None, Option, sym, refl, ◌∙◌, inl, inr, arith}
use Rattle.std.specs.List.{AllByRecursion}
use Rattle.std.proofs.ByRecursion.{All-append, All-weaker}
use Rattle.kinds.specs.Meaning.{Meaning, Lawful}
use Rattle.results.specs.Results.{Results}
use Rattle.tables.specs.Words.{each, InOrder}
use Rattle.tables.specs.Contents.{Contents, Encounter, Place, places, whole, value_of, put_at}
use Rattle.tables.specs.Acceptance.{Acceptable}
use Rattle.tables.specs.Starts.{cells_of, onward, next, starts_from, starts_at, choices, from_starts}
use Rattle.tables.specs.Bridges.{Precedes}
use Rattle.tables.proofs.Lists.{all-given, all_both}
use Rattle.tables.proofs.Covering.{In, starts-within, next-later}
use Rattle.tables.proofs.Placing.{Separate, separate, put_whole}
use Rattle.tables.proofs.Bridging.{Placed, all_placed, chosen_at}

module _ {X : Type 0} (P : X → X → Type 0) where
  order-append : (xs ys : List X) → InOrder P xs → InOrder P ys → AllByRecursion (λ x. AllByRecursion (P x) ys) xs → InOrder P (xs ++ ys)
  order-append [] ys p q a = q
  order-append (x ∷ xs) ys p q a = (All-append (P x) xs ys p.0 a.0, order-append xs ys p.1 q a.1)

  -- where all elements are K
  order-weaker : (K : X → Type 0) (Q : X → X → Type 0) → ((x y : X) → K x → K y → P x y → Q x y) → (xs : List X) → AllByRecursion K xs → InOrder P xs → InOrder Q xs
  order-weaker K Q f [] k p = tt
  order-weaker K Q f (x ∷ xs) k p = (all_both K (P x) (Q x) (λ y a b. f x y k.0 a b) xs k.1 p.0, order-weaker K Q f xs k.1 p.1)

  module _ {Y : Type 0} (S : Y → Y → Type 0) (f : Y → List X) (g : (v w : Y) → S v w → AllByRecursion (λ x. AllByRecursion (P x) (f w)) (f v)) where
    before-each : (v : Y) (ys : List Y) → AllByRecursion (S v) ys → AllByRecursion (λ x. AllByRecursion (P x) (each ys f)) (f v)
    before-each v [] a = all-given (λ x. AllByRecursion (P x) []) (λ x. tt) (f v)
    before-each v (w ∷ ys) a =
        all_both (λ x. AllByRecursion (P x) (f w)) (λ x. AllByRecursion (P x) (each ys f)) (λ x. AllByRecursion (P x) (f w ++ each ys f)) (λ x p q. All-append (P x) (f w) (each ys f) p q)
        (f v) (g v w a.0) (before-each v ys a.1)

    order-each : ((v : Y) → InOrder P (f v)) → (ys : List Y) → InOrder S ys → InOrder P (each ys f)
    order-each h [] o = tt
    order-each h (v ∷ ys) o = order-append (f v) (each ys f) (h v) (order-each h ys o.1) (before-each v ys o.0)

module _ {V C : Type 0} (m : Meaning V C) (law : Lawful m) where
  starts-order : (xs : List C) (z : V) (n : ℕ) (v : V) → InOrder (λ v w. m.rank v < m.rank w) (starts_from m n xs z v)
  starts-order xs z zero v = tt
  starts-order xs z (suc n) v = go (next m xs z v) refl (starts-order xs z n)
    where
      go : (o : Option V) → next m xs z v ≡ o → ((s : V) → InOrder (λ v w. m.rank v < m.rank w) (starts_from m n xs z s)) → InOrder (λ v w. m.rank v < m.rank w) (v ∷ onward (starts_from m n xs z) o)
      go None e h = (tt, tt)
      go (Some s) e h =
          let l = next-later m law xs z v s e in
          (All-weaker (In m law s z) (λ w. m.rank v < m.rank w) (λ w i. omega (arith, l.0, i.0)) (starts_from m n xs z s) (starts-within m law s z xs n s (omega arith) l.1), h s)

module _ {V C R : Type 0} (m : Meaning V C) (law : Lawful m) (r : Results R) (c : Contents V C R) (ok : Acceptable m r c) where
  choices-order : (ps : List (Place V)) → Separate ps → AllByRecursion (Placed m law r c ok) ps → (lent : Encounter V) → whole lent ≡ true → InOrder (Precedes m ps) (choices m c ps lent)
  choices-order [] d n lent w = (tt, tt)
  choices-order (p ∷ ps) d n lent w =
      let f : V → List (Encounter V) = λ v. choices m c ps (put_at p v lent) in
      let at : (v : V) → AllByRecursion (λ s. value_of s p ≡ Some v) (f v) = chosen_at m law r c ok p ps d.0 n.0 lent w in
      order-each (Precedes m (p ∷ ps)) (λ v w. m.rank v < m.rank w) f
      (λ v w l. All-weaker (λ a. value_of a p ≡ Some v) (λ a. AllByRecursion (Precedes m (p ∷ ps) a) (f w))
      (λ a k. All-weaker (λ b. value_of b p ≡ Some w) (Precedes m (p ∷ ps) a) (λ b q. inl (v, (w, (k, (q, l))))) (f w) (at w)) (f v) (at v))
      (λ v. order-weaker (Precedes m ps) (λ s. value_of s p ≡ Some v) (Precedes m (p ∷ ps)) (λ a b k q t. inr (k ∙ sym q, t)) (f v) (at v)
      (choices-order ps d.1 n.1 (put_at p v lent) (put_whole p.side p.number v lent w)))
      (starts_at m c p) (starts-order m law (cells_of c p.number) p.quantity.greatest (suc (m.rank p.quantity.greatest - m.rank p.quantity.least)) p.quantity.least)

  pub in_order : (lent : Encounter V) → whole lent ≡ true → InOrder (Precedes m (places c)) (from_starts m c lent)
  in_order lent w = choices-order (places c) (separate 0 c.quantities) (all_placed m law r c ok) lent w
