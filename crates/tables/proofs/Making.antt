-- The encounters made of starts lie in range, and are as many as the count. Assumes nothing.
use Rattle.std.proofs.Common.{◌≡◌, ℕ, suc, ◌+◌, ◌-◌, ◌*◌, true, leb, List, [], ◌∷◌, ◌++◌, map, length, Some, sym, refl, ap, ◌∙◌, mul_assoc, suc-mul, add_comm, zero-mul, arith, length-append}
use Rattle.std.specs.List.{AllByRecursion}
use Rattle.std.proofs.ByRecursion.{All-weaker}
use Rattle.std.proofs.lemmas.Bool.{and_from, le-leb}
use Rattle.kinds.specs.Meaning.{Meaning, Lawful}
use Rattle.tables.specs.Words.{each, product}
use Rattle.results.specs.Results.{Results}
use Rattle.items.specs.declared.Scope.{Scope}
use Rattle.items.specs.declared.Scope.TheVariants.{Flight, Pair}
use Rattle.items.specs.declared.Side.TheVariants.{OfA}
use Rattle.items.specs.declared.Quantity.{Quantity}
use Rattle.tables.specs.Contents.{Contents, Encounter, Place, sides, places, places_from, whole, within, place_in_range, value_of, put_at}
use Rattle.tables.specs.Acceptance.{Acceptable}
use Rattle.tables.specs.Starts.{cells_of, starts_at, choices}
use Rattle.tables.specs.Bridges.{taken, count_from, CountIsProduct, MadeOfStarts}
use Rattle.tables.proofs.Lists.{all-nth, all_both, all-each}
use Rattle.tables.proofs.Covering.{In, starts-within}
use Rattle.tables.proofs.Placing.{place, Separate, separate, put_whole}
use Rattle.tables.proofs.Bridging.{Placed, all_placed, chosen_at}
use Rattle.tables.proofs.Ordering.{in_order}

length-each : {X Y : Type 0} (f : X → List Y) (n : ℕ) → ((x : X) → length (f x) ≡ n) → (xs : List X) → length (each xs f) ≡ length xs * n
length-each f n h [] = sym (zero-mul n)
length-each f n h (x ∷ xs) = length-append (f x) (each xs f) ∙ ap (λ k. k + length (each xs f)) (h x) ∙ ap (λ k. n + k) (length-each f n h xs) ∙ add_comm n (length xs * n) ∙ sym (suc-mul (length xs) n)

module _ {V C R : Type 0} (m : Meaning V C) (law : Lawful m) (r : Results R) (c : Contents V C R) (ok : Acceptable m r c) where
  abbrev many : Place V → ℕ
  many p = length (starts_at m c p)

  choices-count : (ps : List (Place V)) (e : Encounter V) → length (choices m c ps e) ≡ product (map (λ p. length (starts_at m c p)) ps)
  choices-count [] e = refl
  choices-count (p ∷ ps) e = length-each (λ v. choices m c ps (put_at p v e)) (product (map (λ p. length (starts_at m c p)) ps)) (λ v. choices-count ps (put_at p v e)) (starts_at m c p)

  choices-in : (ps : List (Place V)) → Separate ps → AllByRecursion (Placed m law r c ok) ps → (lent : Encounter V) → whole lent ≡ true → AllByRecursion (λ s. AllByRecursion (place_in_range m s) ps) (choices m c ps lent)
  choices-in [] d n lent w = (tt, tt)
  choices-in (p ∷ ps) d n lent w =
      let q = p.quantity in
      let ordered = law.ordered q.least q.greatest (all-nth (λ q. m.range q.least q.greatest ≡ true) c.quantities p.number q ok.quantities.1 n.0) in
      all-each (λ s. AllByRecursion (place_in_range m s) (p ∷ ps)) (λ v. choices m c ps (put_at p v lent)) (starts_at m c p)
      (All-weaker (In m law q.least q.greatest) (λ v. AllByRecursion (λ s. AllByRecursion (place_in_range m s) (p ∷ ps)) (choices m c ps (put_at p v lent)))
      (λ v i. all_both (λ s. value_of s p ≡ Some v) (λ s. AllByRecursion (place_in_range m s) ps) (λ s. AllByRecursion (place_in_range m s) (p ∷ ps))
      (λ s k g. (ap (within m q) k ∙ and_from (leb (m.rank q.least) (m.rank v)) (leb (m.rank v) (m.rank q.greatest)) (le-leb (m.rank q.least) (m.rank v) i.0) (le-leb (m.rank v) (m.rank q.greatest) i.1), g))
      (choices m c ps (put_at p v lent)) (chosen_at m law r c ok p ps d.0 n.0 lent w v) (choices-in ps d.1 n.1 (put_at p v lent) (put_whole p.side p.number v lent w)))
      (starts_at m c p) (starts-within m law q.least q.greatest (cells_of c p.number) (suc (m.rank q.greatest - m.rank q.least)) q.least (omega arith) ordered))

  counted : (i : ℕ) (q : Quantity V) (k : Scope) (qs : List (Quantity V)) → product (map many (places_from (suc i) qs)) ≡ count_from m r c (suc i) qs
      → product (map many (map (place i q) (sides k) ++ places_from (suc i) qs)) ≡ taken k (many (place i q OfA)) * count_from m r c (suc i) qs
  counted i q Flight qs h = ap (λ n. many (place i q OfA) * (many (place i q OfA) * n)) h ∙ sym (mul_assoc (many (place i q OfA)) (many (place i q OfA)) (count_from m r c (suc i) qs))
  counted i q Pair qs h = ap (λ n. many (place i q OfA) * n) h

  count-from : (i : ℕ) (qs : List (Quantity V)) → product (map many (places_from i qs)) ≡ count_from m r c i qs
  count-from i [] = refl
  count-from i (q ∷ qs) = counted i q q.scope qs (count-from (suc i) qs)

  pub made-of-starts : MadeOfStarts m r c
  made-of-starts lent w = (choices-count (places c) lent, choices-in (places c) (separate 0 c.quantities) (all_placed m law r c ok) lent w, in_order m law r c ok lent w)

  pub count-is-product : CountIsProduct m r c
  count-is-product = count-from 0 c.quantities
