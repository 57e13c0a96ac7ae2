-- The bridge: each encounter in range is read as one that is made of starts. Assumes nothing.
use Rattle.std.proofs.Common.{◌≡◌, ℕ, suc, ◌-◌, ◌<◌, true, leb, List, [], ◌∷◌, Some, None, Option, sym, ap, ◌∙◌, subst, inl, zero-add, arith}
use Rattle.std.specs.List.{slice_get, AllByRecursion}
use Rattle.std.proofs.ByRecursion.{All-weaker}
use Rattle.std.proofs.lemmas.Bool.{and_parts, leb-true, false≢true}
use Rattle.kinds.specs.Meaning.{Meaning, Lawful}
use Rattle.items.specs.declared.Scope.{Scope}
use Rattle.items.specs.declared.Scope.TheVariants.{Flight, Pair}
use Rattle.tables.specs.Words.{Any}
use Rattle.results.specs.Results.{Results}
use Rattle.tables.specs.Contents.{Contents, Encounter, Place, sides, places, value_at, whole, exchange, within, place_in_range, value_of, put_at}
use Rattle.tables.specs.Acceptance.{Acceptable}
use Rattle.tables.specs.Outcomes.{holds_for}
use Rattle.tables.specs.Starts.{cells_of, starts_at, choices, from_starts}
use Rattle.tables.specs.Bridges.{Bridge}
use Rattle.tables.proofs.Lists.{all-nth, nth-some, any-each, any-weaker, any-both}
use Rattle.tables.proofs.Covering.{covered}
use Rattle.tables.proofs.Placing.{placed, sides-at, Apart, Separate, separate, put-here, put_whole}
use Rattle.tables.proofs.Keeping.{apart-untouched, choices-keep}
use Rattle.tables.proofs.Reading.{Alike, cells_fit, outcome-same}

module _ {V C R : Type 0} (m : Meaning V C) (law : Lawful m) (r : Results R) (c : Contents V C R) (ok : Acceptable m r c) where
  abbrev pub Placed : Place V → Type 0
  Placed p = slice_get c.quantities p.number ≡ Some p.quantity

  abbrev Read : List C → Option V → Option V → Type 0
  Read xs o u = AllByRecursion (λ x. holds_for m x o ≡ holds_for m x u) xs

  abbrev ReadAt : Encounter V → Encounter V → Place V → Type 0
  ReadAt e s p = Read (cells_of c p.number) (value_of s p) (value_of e p)

  -- a start is read as the value is
  start-for : (p : Place V) → Placed p → (o : Option V) → within m p.quantity o ≡ true → Any (λ v. Read (cells_of c p.number) (Some v) o) (starts_at m c p)
  start-for p n None h = absurd (false≢true h)
  start-for p n (Some w) h =
      let q = p.quantity in
      let b = and_parts (leb (m.rank q.least) (m.rank w)) (leb (m.rank w) (m.rank q.greatest)) h in
      covered m law q.least q.greatest (all-nth (λ q. m.range q.least q.greatest ≡ true) c.quantities p.number q ok.quantities.1 n) w (leb-true (m.rank w) (m.rank q.greatest) b.1)
      (cells_of c p.number) (cells_fit m r c ok p.number q n) (suc (m.rank q.greatest - m.rank q.least)) q.least (omega arith) (omega arith) (leb-true (m.rank q.least) (m.rank w) b.0)

  -- later choices leave the start that was put at p
  pub chosen_at : (p : Place V) (ps : List (Place V)) → AllByRecursion (Apart p) ps → Placed p → (lent : Encounter V) → whole lent ≡ true → (v : V) → AllByRecursion (λ s. value_of s p ≡ Some v) (choices m c ps (put_at p v lent))
  chosen_at p ps a n lent w v =
      let e : Encounter V = put_at p v lent in
      let few : p.number < 16 = omega (arith, nth-some c.quantities p.number p.quantity n, ok.quantities.0) in
      All-weaker (λ s. value_of s p ≡ value_of e p) (λ s. value_of s p ≡ Some v) (λ s k. k ∙ put-here p.side p.number v lent w few) (choices m c ps e) (choices-keep m c p.side p.number ps (apart-untouched p ps a) e)

  chosen : (ps : List (Place V)) → Separate ps → AllByRecursion Placed ps → (e lent : Encounter V) → AllByRecursion (place_in_range m e) ps → whole lent ≡ true → Any (λ s. AllByRecursion (ReadAt e s) ps) (choices m c ps lent)
  chosen [] d n e lent h w = inl tt
  chosen (p ∷ ps) d n e lent h w =
      let o = value_of e p in
      any-each (λ v. Read (cells_of c p.number) (Some v) o) (λ s. AllByRecursion (ReadAt e s) (p ∷ ps)) (λ v. choices m c ps (put_at p v lent)) (starts_at m c p)
      (start-for p n.0 o h.0)
      (λ v same. any-both (λ s. value_of s p ≡ Some v) (λ s. AllByRecursion (ReadAt e s) ps) (λ s. AllByRecursion (ReadAt e s) (p ∷ ps))
      (λ s k g. (subst (λ u. Read (cells_of c p.number) u o) (sym k) same, g)) (choices m c ps (put_at p v lent))
      (chosen_at p ps d.0 n.0 lent w v) (chosen ps d.1 n.1 e (put_at p v lent) h.1 (put_whole p.side p.number v lent w)))

  exchanged : (e s : Encounter V) (f : ℕ → List C) → Alike m c.quantities e s f → Alike m c.quantities (exchange c e) (exchange c s) f
  exchanged e s f h i q n = go q.scope (h i q n)
    where
      go : (k : Scope) → AllByRecursion (λ t. Read (f i) (value_at s t i) (value_at e t i)) (sides k) → AllByRecursion (λ t. Read (f i) (value_at (exchange c s) t i) (value_at (exchange c e) t i)) (sides k)
      go Flight a = (a.1.0, (a.0, tt))
      go Pair a = a

  pub all_placed : AllByRecursion Placed (places c)
  all_placed = placed c.quantities c.quantities 0 (λ i. ap (slice_get c.quantities) (zero-add i))

  pub bridge : Bridge m r c
  bridge e lent h w =
      any-weaker (λ s. AllByRecursion (ReadAt e s) (places c)) _
      (λ s g.
      let same : Alike m c.quantities e s (cells_of c) = λ i q n. sides-at (ReadAt e s) 0 c.quantities i i q (zero-add i) n g in
      (outcome-same m r c ok e s same, outcome-same m r c ok (exchange c e) (exchange c s) (exchanged e s (cells_of c) same)))
      (from_starts m c lent) (chosen (places c) (separate 0 c.quantities) all_placed e lent h w)
