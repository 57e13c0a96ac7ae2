-- Two lawful kinds joined are lawful. Assumes nothing.
use Rattle.std.specs.Prelude.{◌≡◌, ℕ, ◌+◌, ◌<◌, ◌≤◌, true, Some, None, Option, refl}
use Rattle.std.proofs.Common.{ap, sym, arith}
use Rattle.std.specs.Option.{option_map}
use Rattle.std.proofs.lemmas.Bool.{false≢true}
use Rattle.joined.specs.declared.Either.{Either}
use Rattle.joined.specs.declared.Either.TheVariants.{Left, Right}
use Rattle.kinds.specs.Meaning.{Meaning, Lawful, Before}
use Rattle.joined.specs.Joins.{joined}

-- before a stop of a part, and before it in the whole
before-left : {V W : Type 0} (rank : Either V W → ℕ) (w : V) (o : Option V) → Before rank (Left w) (option_map Left o) → Before (λ v. rank (Left v)) w o
before-left rank w None h = tt
before-left rank w (Some s) h = h

before-right : {V W : Type 0} (k : ℕ) (rank : W → ℕ) (full : Either V W → ℕ) (e : (w : W) → full (Right w) ≡ k + rank w) (w : W) (o : Option W) → Before full (Right w) (option_map Right o) → Before rank w o
before-right k rank full e w None h = tt
before-right k rank full e w (Some s) h = omega (arith, e w, e s, h)

mapped-some : {A B : Type 0} (f : A → B) (P : B → Type 0) (o : Option A) → ((a : A) → o ≡ Some a → P (f a)) → (s : B) → option_map f o ≡ Some s → P s
mapped-some f P None h s e = let z : ◌≡◌ {A = ℕ} 0 1 = cc in absurd (omega arith)
mapped-some f P (Some a) h s e = let y : f a ≡ s = cc in rw (sym y) (h a refl)

module _ {V C W D : Type 0} (l : Meaning V C) (r : Meaning W D) (law_l : Lawful l) (law_r : Lawful r) where
  bounded : (v : Either V W) → (joined l r).rank v < (joined l r).size
  bounded (Left v) = omega (arith, law_l.bounded v)
  bounded (Right w) = omega (arith, law_r.bounded w)

  distinct : (v w : Either V W) → (joined l r).value v ≡ true → (joined l r).value w ≡ true → (joined l r).rank v ≡ (joined l r).rank w → v ≡ w
  distinct (Left v) (Left w) p q e = ap Left (law_l.distinct v w p q e)
  distinct (Left v) (Right w) p q e = absurd (omega (arith, law_l.bounded v))
  distinct (Right v) (Left w) p q e = absurd (omega (arith, law_l.bounded w))
  distinct (Right v) (Right w) p q e = ap Right (law_r.distinct v w p q (omega arith))

  ordered : (a z : Either V W) → (joined l r).range a z ≡ true → (joined l r).rank a ≤ (joined l r).rank z
  ordered (Left a) (Left z) e = law_l.ordered a z e
  ordered (Left a) (Right z) e = absurd (false≢true e)
  ordered (Right a) (Left z) e = absurd (false≢true e)
  ordered (Right a) (Right z) e = omega (arith, law_r.ordered a z e)

  between : (a z v : Either V W) → (joined l r).range a z ≡ true → (joined l r).rank a ≤ (joined l r).rank v → (joined l r).rank v ≤ (joined l r).rank z → (joined l r).value v ≡ true
  between (Left a) (Left z) (Left v) e p q = law_l.between a z v e p q
  between (Left a) (Left z) (Right v) e p q = absurd (omega (arith, law_l.bounded z))
  between (Left a) (Right z) v e p q = absurd (false≢true e)
  between (Right a) (Left z) v e p q = absurd (false≢true e)
  between (Right a) (Right z) (Left v) e p q = absurd (omega (arith, law_l.bounded v))
  between (Right a) (Right z) (Right v) e p q = law_r.between a z v e (omega arith) (omega arith)

  later : (c : Either C D) (v s : Either V W) → (joined l r).stop c v ≡ Some s → ((joined l r).rank v < (joined l r).rank s) × ((joined l r).value s ≡ true)
  later (Left c) (Left v) s e = mapped-some Left (λ x. (l.rank v < (joined l r).rank x) × ((joined l r).value x ≡ true)) (l.stop c v) (λ a. law_l.later c v a) s e
  later (Left c) (Right v) s e = let z : ◌≡◌ {A = ℕ} 0 1 = cc in absurd (omega arith)
  later (Right c) (Left v) s e = let z : ◌≡◌ {A = ℕ} 0 1 = cc in absurd (omega arith)
  later (Right c) (Right v) s e = mapped-some Right (λ x. (l.size + r.rank v < (joined l r).rank x) × ((joined l r).value x ≡ true)) (r.stop c v) (λ a k. let h = law_r.later c v a k in (omega arith, h.1)) s e

  steady : (c : Either C D) (a z v w : Either V W) → (joined l r).range a z ≡ true → (joined l r).fits c a z ≡ true
      → (joined l r).rank a ≤ (joined l r).rank v → (joined l r).rank v ≤ (joined l r).rank w → (joined l r).rank w ≤ (joined l r).rank z
      → Before (joined l r).rank w ((joined l r).stop c v) → (joined l r).holds c v ≡ (joined l r).holds c w
  steady (Left c) (Left a) (Left z) (Left v) (Left w) e f p q k h = law_l.steady c a z v w e f p q k (before-left (joined l r).rank w (l.stop c v) h)
  steady (Left c) (Left a) (Left z) (Left v) (Right w) e f p q k h = absurd (omega (arith, law_l.bounded z))
  steady (Left c) (Left a) (Left z) (Right v) w e f p q k h = absurd (omega (arith, law_l.bounded z))
  steady (Left c) (Left a) (Right z) v w e f p q k h = absurd (false≢true e)
  steady (Left c) (Right a) z v w e f p q k h = absurd (false≢true f)
  steady (Right c) (Left a) z v w e f p q k h = absurd (false≢true f)
  steady (Right c) (Right a) (Left z) v w e f p q k h = absurd (false≢true e)
  steady (Right c) (Right a) (Right z) (Left v) w e f p q k h = absurd (omega (arith, law_l.bounded v))
  steady (Right c) (Right a) (Right z) (Right v) (Left w) e f p q k h = absurd (omega (arith, law_l.bounded w))
  steady (Right c) (Right a) (Right z) (Right v) (Right w) e f p q k h =
      law_r.steady c a z v w e f (omega arith) (omega arith) (omega arith) (before-right l.size r.rank (joined l r).rank (λ _. refl) w (r.stop c v) h)

  pub joined-lawful : Lawful (joined l r)
  joined-lawful = record { bounded = bounded; distinct = distinct; ordered = ordered; between = between; later = later; steady = steady }
