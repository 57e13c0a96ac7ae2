-- The places of a sheet: each has its quantity, and no two are one. Assumes nothing.
use Rattle.std.proofs.Common.{◌≡◌, ℕ, zero, suc, ◌+◌, ◌<◌, true, List, [], ◌∷◌, ◌++◌, map, length, Some, sym, refl, ap, ◌∙◌, subst, arith, length-set}
use Rattle.std.specs.List.{slice_get, AllByRecursion}
use Rattle.std.proofs.ByRecursion.{All-append, All-map, All-weaker}
use Rattle.std.proofs.lemmas.List.{set_comm, set-set}
use Rattle.std.proofs.lemmas.Bool.Decides.{nat_tests}
use Rattle.items.specs.declared.Scope.{Scope}
use Rattle.items.specs.declared.Scope.TheVariants.{Flight, Pair}
use Rattle.items.specs.declared.Side.{Side}
use Rattle.items.specs.declared.Side.TheVariants.{OfA, OfB, OfPair}
use Rattle.items.specs.declared.Quantity.{Quantity}
use Rattle.tables.specs.Contents.{Encounter, Place, sides, places_from, value_at, put, whole, value_of, put_at}
use Rattle.tables.proofs.Lists.{none-some, some_same, all_split, all-given, map-all, nth-set-same, nth-set-other}

module _ {V : Type 0} where
  abbrev pub place : ℕ → Quantity V → Side → Place V
  place i q s = record { side = s; number = i; quantity = q }

  -- each place has its quantity by number
  pub placed : (all qs : List (Quantity V)) (k : ℕ) → ((i : ℕ) → slice_get all (k + i) ≡ slice_get qs i) → AllByRecursion (λ p. slice_get all p.number ≡ Some p.quantity) (places_from k qs)
  placed all [] k h = tt
  placed all (q ∷ qs) k h =
      let here : k ≡ k + 0 = omega arith in
      let on : (i : ℕ) → suc k + i ≡ k + suc i = λ i. omega arith in
      All-append (λ p. slice_get all p.number ≡ Some p.quantity) (map (place k q) (sides q.scope)) (places_from (suc k) qs)
      (All-map (λ p. slice_get all p.number ≡ Some p.quantity) (place k q) (sides q.scope) (all-given (λ s. slice_get all k ≡ Some q) (λ s. ap (slice_get all) here ∙ h 0) (sides q.scope)))
      (placed all qs (suc k) (λ i. ap (slice_get all) (on i) ∙ h (suc i)))

  -- what holds of each place holds of each side of quantity j
  pub sides-at : (P : Place V → Type 0) (k : ℕ) (qs : List (Quantity V)) (i j : ℕ) (q : Quantity V) → k + i ≡ j → slice_get qs i ≡ Some q → AllByRecursion P (places_from k qs) → AllByRecursion (λ s. P (place j q s)) (sides q.scope)
  sides-at P k [] i j q n e h = none-some q e
  sides-at P k (x ∷ qs) zero j q n e h =
      let here : k ≡ j = omega arith in
      subst (λ y. AllByRecursion (λ s. P (place j y s)) (sides y.scope)) (some_same x q e)
      (subst (λ y. AllByRecursion (λ s. P (place y x s)) (sides x.scope)) here (map-all P (place k x) (sides x.scope) (all_split P (map (place k x) (sides x.scope)) (places_from (suc k) qs) h).0))
  sides-at P k (x ∷ qs) (suc i) j q n e h = sides-at P (suc k) qs i j q (omega arith) e (all_split P (map (place k x) (sides x.scope)) (places_from (suc k) qs) h).1

  -- a value put at t leaves that at p, and the order of putting does not matter
  abbrev pub Apart : Place V → Place V → Type 0
  Apart p t = ((v : V) (e : Encounter V) → value_of (put_at t v e) p ≡ value_of e p) × ((v w : V) (e : Encounter V) → put_at p v (put_at t w e) ≡ put_at t w (put_at p v e))

  abbrev pub Separate : List (Place V) → Type 0
  Separate [] = Unit {0}
  Separate (p ∷ ps) = AllByRecursion (Apart p) ps × Separate ps

  -- a value put elsewhere leaves that of side t at j
  pub put_other : (s t : Side) (i j : ℕ) (v : V) (e : Encounter V) → ((s ≡ t) × (i ≡ j) → ⊥) → value_at (put s i v e) t j ≡ value_at e t j
  put_other OfA OfA i j v e h = nth-set-other e.a i j v (λ q. h (refl, q))
  put_other OfA OfB i j v e h = refl
  put_other OfA OfPair i j v e h = refl
  put_other OfB OfA i j v e h = refl
  put_other OfB OfB i j v e h = nth-set-other e.b i j v (λ q. h (refl, q))
  put_other OfB OfPair i j v e h = refl
  put_other OfPair OfA i j v e h = refl
  put_other OfPair OfB i j v e h = refl
  put_other OfPair OfPair i j v e h = nth-set-other e.pair i j v (λ q. h (refl, q))

  put-swap : (s t : Side) (i j : ℕ) (v w : V) (e : Encounter V) → (i ≡ j → ⊥) → put s i v (put t j w e) ≡ put t j w (put s i v e)
  put-swap OfA OfA i j v w e h = ap (λ l. record { a = l; b = e.b; pair = e.pair }) (set_comm e.a j i w v (λ n. h (sym n)))
  put-swap OfA OfB i j v w e h = refl
  put-swap OfA OfPair i j v w e h = refl
  put-swap OfB OfA i j v w e h = refl
  put-swap OfB OfB i j v w e h = ap (λ l. record { a = e.a; b = l; pair = e.pair }) (set_comm e.b j i w v (λ n. h (sym n)))
  put-swap OfB OfPair i j v w e h = refl
  put-swap OfPair OfA i j v w e h = refl
  put-swap OfPair OfB i j v w e h = refl
  put-swap OfPair OfPair i j v w e h = ap (λ l. record { a = e.a; b = e.b; pair = l }) (set_comm e.pair j i w v (λ n. h (sym n)))

  pub put-put : (s : Side) (i : ℕ) (v w : V) (e : Encounter V) → put s i v (put s i w e) ≡ put s i v e
  put-put OfA i v w e = ap (λ l. record { a = l; b = e.b; pair = e.pair }) (set-set e.a i w v)
  put-put OfB i v w e = ap (λ l. record { a = e.a; b = l; pair = e.pair }) (set-set e.b i w v)
  put-put OfPair i v w e = ap (λ l. record { a = e.a; b = e.b; pair = l }) (set-set e.pair i w v)

  beyond : (i k : ℕ) (qs : List (Quantity V)) → i < k → AllByRecursion (λ p. i ≡ p.number → ⊥) (places_from k qs)
  beyond i k [] h = tt
  beyond i k (q ∷ qs) h =
      All-append (λ p. i ≡ p.number → ⊥) (map (place k q) (sides q.scope)) (places_from (suc k) qs)
      (All-map (λ p. i ≡ p.number → ⊥) (place k q) (sides q.scope) (all-given (λ s. i ≡ k → ⊥) (λ s e. omega arith) (sides q.scope)))
      (beyond i (suc k) qs (omega arith))

  separate-sides : (c : Scope) (k : ℕ) (q : Quantity V) (ps : List (Place V)) → ((s : Side) → AllByRecursion (Apart (place k q s)) ps) → Separate ps → Separate (map (place k q) (sides c) ++ ps)
  separate-sides Flight k q ps h t = ((((λ v e. refl), λ v w e. refl), h OfA), (h OfB, t))
  separate-sides Pair k q ps h t = (h OfPair, t)

  pub separate : (k : ℕ) (qs : List (Quantity V)) → Separate (places_from k qs)
  separate k [] = tt
  separate k (q ∷ qs) =
      separate-sides q.scope k q (places_from (suc k) qs)
      (λ s. All-weaker (λ p. k ≡ p.number → ⊥) (Apart (place k q s)) (λ p h. ((λ v e. put_other p.side s p.number k v e (λ n. h (sym n.1))), λ v w e. put-swap s p.side k p.number v w e h)) (places_from (suc k) qs) (beyond k (suc k) qs (omega arith)))
      (separate (suc k) qs)

  pub put-here : (s : Side) (i : ℕ) (v : V) (e : Encounter V) → whole e ≡ true → i < 16 → value_at (put s i v e) s i ≡ Some v
  put-here OfA i v e w h = let l : i < length e.a = grind (arith, nat_tests) in nth-set-same e.a i v l
  put-here OfB i v e w h = let l : i < length e.b = grind (arith, nat_tests) in nth-set-same e.b i v l
  put-here OfPair i v e w h = let l : i < length e.pair = grind (arith, nat_tests) in nth-set-same e.pair i v l

  pub put_whole : (s : Side) (i : ℕ) (v : V) (e : Encounter V) → whole e ≡ true → whole (put s i v e) ≡ true
  put_whole OfA i v e w = rw (length-set e.a i v) w
  put_whole OfB i v e w = rw (length-set e.b i v) w
  put_whole OfPair i v e w = rw (length-set e.pair i v) w
