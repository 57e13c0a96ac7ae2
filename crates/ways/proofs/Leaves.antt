-- The way by sets is one way, whether a pair of values is put before it or after it. Assumes nothing.
use Rattle.std.proofs.Common.{◌≡◌, ℕ, suc, ◌<◌, List, [], ◌∷◌, ◌++◌, map, sym, refl, ap, ◌∙◌, ap₂, append_assoc, arith}
use Rattle.std.specs.List.{between, AllByRecursion}
use Rattle.std.proofs.lemmas.List.{map-append, set_comm}
use Rattle.std.proofs.lemmas.Simd.{map-map}
use Rattle.kinds.specs.Meaning.{Meaning}
use Rattle.items.specs.declared.Scope.{Scope}
use Rattle.items.specs.declared.Scope.TheVariants.{Flight, Pair}
use Rattle.items.specs.declared.Quantity.{Quantity}
use Rattle.items.specs.declared.Entry.{Entry}
use Rattle.tables.specs.Words.{each}
use Rattle.tables.specs.Contents.{Contents, Encounter}
use Rattle.tables.proofs.Lists.{each_same}
use Rattle.sets.specs.declared.Met.{Met}
use Rattle.sets.specs.declared.Mark.{Mark}
use Rattle.sets.specs.declared.Span.{Span}
use Rattle.sets.specs.Marks.{AllSpanned}
use Rattle.sets.specs.Walks.{beside, pairs, narrowed, put_pair, leaves}

map-same : {X Y : Type 0} (f g : X → Y) → ((x : X) → f x ≡ g x) → (xs : List X) → map f xs ≡ map g xs
map-same f g h [] = refl
map-same f g h (x ∷ xs) = ap₂ (λ y ys. y ∷ ys) (h x) (map-same f g h xs)

map-each : {X Y Z : Type 0} (k : Y → Z) (h : X → List Y) (xs : List X) → map k (each xs h) ≡ each xs (λ x. map k (h x))
map-each k h [] = refl
map-each k h (x ∷ xs) = map-append k (h x) (each xs h) ∙ ap (λ ys. map k (h x) ++ ys) (map-each k h xs)

each-map : {X Y Z : Type 0} (h : X → Y) (k : Y → List Z) (xs : List X) → each (map h xs) k ≡ each xs (λ x. k (h x))
each-map h k [] = refl
each-map h k (x ∷ xs) = ap (λ ys. k (h x) ++ ys) (each-map h k xs)

each-append : {X Y : Type 0} (k : X → List Y) (xs ys : List X) → each (xs ++ ys) k ≡ each xs k ++ each ys k
each-append k [] ys = refl
each-append k (x ∷ xs) ys = ap (λ zs. k x ++ zs) (each-append k xs ys) ∙ sym (append_assoc (k x) (each xs k) (each ys k))

each-each : {X Y Z : Type 0} (h : X → List Y) (k : Y → List Z) (xs : List X) → each (each xs h) k ≡ each xs (λ x. each (h x) k)
each-each h k [] = refl
each-each h k (x ∷ xs) = each-append k (h x) (each xs h) ∙ ap (λ ys. each (h x) k ++ ys) (each-each h k xs)

-- the spans are of other quantities
abbrev pub Others : ℕ → List Span → Type 0
Others i ps = AllByRecursion (λ p. i ≡ p.quantity → ⊥) ps

module _ {V : Type 0} where
  -- over the pairs of marks: over A's, and over those of B's that stand beside it
  pub each-pairs : {X : Type 0} (sc : Scope) (xs : List (Mark V)) (f : Mark V × Mark V → List X) → each (pairs sc xs) f ≡ each xs (λ x. each (beside sc xs x) (λ y. f (x, y)))
  each-pairs sc xs f =
      each-each (λ x. map (λ y. (x, y)) (beside sc xs x)) f xs
      ∙ each_same (λ x. each (map (λ y. (x, y)) (beside sc xs x)) f) (λ x. each (beside sc xs x) (λ y. f (x, y))) (λ x. each-map (λ y. (x, y)) f (beside sc xs x)) xs

  put-pairs-swap : (a b : Scope) (i j : ℕ) (t u : Mark V × Mark V) (e : Encounter V) → (i ≡ j → ⊥) → put_pair b j u (put_pair a i t e) ≡ put_pair a i t (put_pair b j u e)
  put-pairs-swap Flight Flight i j t u e h = ap₂ (λ k l. record { a = k; b = l; pair = e.pair }) (set_comm e.a i j t.0.value u.0.value h) (set_comm e.b i j t.1.value u.1.value h)
  put-pairs-swap Flight Pair i j t u e h = refl
  put-pairs-swap Pair Flight i j t u e h = refl
  put-pairs-swap Pair Pair i j t u e h = ap (λ l. record { a = e.a; b = e.b; pair = l }) (set_comm e.pair i j t.0.value u.0.value h)

  -- the pair put into the encounter of a leaf
  abbrev pub leaf_with : Scope → ℕ → Mark V × Mark V → Met × Encounter V → Met × Encounter V
  leaf_with sc i t l = (l.0, put_pair sc i t l.1)

  pub leaves_put : (marks : List (Mark V)) (sc : Scope) (i : ℕ) (t : Mark V × Mark V) (ps : List Span) → Others i ps → (s : Met) (e : Encounter V) → leaves marks ps s (put_pair sc i t e) ≡ map (leaf_with sc i t) (leaves marks ps s e)
  leaves_put marks sc i t [] h s e = refl
  leaves_put marks sc i t (p ∷ ps) h s e =
      let put_last : Met × Encounter V → Met × Encounter V = leaf_with sc i t in
      each_same (λ u. map (leaf_with p.scope p.quantity u) (leaves marks ps (narrowed u s) (put_pair sc i t e))) (λ u. map put_last (map (leaf_with p.scope p.quantity u) (leaves marks ps (narrowed u s) e)))
      (λ u. let ls = leaves marks ps (narrowed u s) e in
      ap (map (leaf_with p.scope p.quantity u)) (leaves_put marks sc i t ps h.1 (narrowed u s) e)
      ∙ map-map (leaf_with p.scope p.quantity u) put_last ls
      ∙ map-same (λ l. leaf_with p.scope p.quantity u (put_last l)) (λ l. put_last (leaf_with p.scope p.quantity u l)) (λ l. ap (λ e. (l.0, e)) (put-pairs-swap sc p.scope i p.quantity t u l.1 h.0)) ls
      ∙ sym (map-map put_last (leaf_with p.scope p.quantity u) ls))
      (pairs p.scope (between p.from p.to marks))
      ∙ sym (map-each put_last (λ u. map (leaf_with p.scope p.quantity u) (leaves marks ps (narrowed u s) e)) (pairs p.scope (between p.from p.to marks)))

pub spans-above : {V C R : Type 0} (m : Meaning V C) (c : Contents V C R) (column : ℕ → List (Entry C)) (marks : List (Mark V)) (i k : ℕ) (qs : List (Quantity V)) (ps : List Span) → i < k → AllSpanned m c column marks k qs ps → Others i ps
spans-above m c column marks i k [] [] l a = tt
spans-above m c column marks i k [] (p ∷ ps) l a = absurd a
spans-above m c column marks i k (q ∷ qs) [] l a = absurd a
spans-above m c column marks i k (q ∷ qs) (p ∷ ps) l a = ((λ e. let at = a.0.quantity in omega (arith, at, e)), spans-above m c column marks i (suc k) qs ps (omega arith) a.1)
