-- A set of what is met, narrowed by the marks of a quantity, has what is met with their values. Assumes nothing.
use Rattle.std.proofs.Common.{◌≡◌, ℕ, suc, ◌+◌, ◌<◌, Bool, true, false, ◌&&◌, eqb, List, length, Some, None, sym, refl, ap, ◌∙◌, subst, subst₂, take, arith, nat_lt, bit_and}
use Rattle.std.specs.List.{slice_get}
use Rattle.kinds.specs.Meaning.{Meaning}
use Rattle.results.specs.Results.{Results}
use Rattle.items.specs.declared.Counts.{Counts}
use Rattle.items.specs.declared.Scope.{Scope}
use Rattle.items.specs.declared.Scope.TheVariants.{Flight, Pair}
use Rattle.items.specs.declared.Side.TheVariants.{OfA, OfB, OfPair}
use Rattle.items.specs.declared.Quantity.{Quantity}
use Rattle.items.specs.declared.Entry.{Entry}
use Rattle.tables.specs.Contents.{Contents, Encounter, put, whole, exchange}
use Rattle.tables.specs.Acceptance.{Acceptable}
use Rattle.tables.proofs.Lists.{nth-some}
use Rattle.tables.proofs.Placing.{put_other, put-here, put_whole}
use Rattle.sets.specs.declared.Met.{Met}
use Rattle.sets.specs.declared.Mark.{Mark}
use Rattle.sets.specs.Sets.{bit, in_use, met_where, HasBelow, MetBelow, MetBy}
use Rattle.sets.specs.Marks.{reads_a, reads_b, all_held, each_held, Marked}
use Rattle.sets.specs.Walks.{held_by, narrowed, put_pair}
use Rattle.ways.specs.Ways.{AllInUse}
use Rattle.ways.proofs.Bits.{joined, and-true, bit-both, bit-joint}
use Rattle.ways.proofs.Rows.{Stands, SameBelow, met-next, met_none, met_all}

module _ {V : Type 0} where
  -- a value of the pair stands beside itself
  abbrev pub Beside : Scope → Mark V → Mark V → Type 0
  Beside Flight x y = Unit {0}
  Beside Pair x y = x ≡ y

  pub beside-sym : (sc : Scope) (x y : Mark V) → Beside sc x y → Beside sc y x
  beside-sym Flight x y h = tt
  beside-sym Pair x y h = sym h

  pub put_pair-whole : (sc : Scope) (i : ℕ) (t : Mark V × Mark V) (e : Encounter V) → whole e ≡ true → whole (put_pair sc i t e) ≡ true
  put_pair-whole Flight i t e w = put_whole OfB i t.1.value (put OfA i t.0.value e) (put_whole OfA i t.0.value e w)
  put_pair-whole Pair i t e w = put_whole OfPair i t.0.value e w

  put-stands : (sc : Scope) (i : ℕ) (x y : Mark V) (e : Encounter V) → Beside sc x y → whole e ≡ true → i < 16 → Stands sc i x.value y.value (put_pair sc i (x, y) e)
  put-stands Flight i x y e h w l = (put-here OfA i x.value e w l, put-here OfB i y.value (put OfA i x.value e) (put_whole OfA i x.value e w) l)
  put-stands Pair i x y e h w l = (put-here OfPair i x.value e w l, put-here OfPair i x.value e w l ∙ ap (λ (z : Mark V). Some z.value) h)

  put-below : (sc : Scope) (i : ℕ) (t : Mark V × Mark V) (e : Encounter V) → SameBelow i e (put_pair sc i t e)
  put-below Flight i t e z j l =
      put_other OfB z i j t.1.value (put OfA i t.0.value e) (λ q. let k : i ≡ j = q.1 in omega arith) ∙ put_other OfA z i j t.0.value e (λ q. let k : i ≡ j = q.1 in omega arith)
  put-below Pair i t e z j l = put_other OfPair z i j t.0.value e (λ q. let k : i ≡ j = q.1 in omega arith)

regroup : (u p a b j : Bool) → ((((u && p) && a) && b) && j) ≡ (u && (((p && a) && b) && j))
regroup true p a b j = refl
regroup false p a b j = refl

swap : (p q r : Bool) → (p && (q && r)) ≡ (q && (p && r))
swap true q r = refl
swap false true r = refl
swap false false r = refl

module _ {V C R : Type 0} (m : Meaning V C) (r : Results R) (c : Contents V C R) (ok : Acceptable m r c) (n : Counts) (column : ℕ → List (Entry C)) where
  exchange-put : (sc : Scope) (i : ℕ) (x y : Mark V) (e : Encounter V) → Beside sc x y → put_pair sc i (y, x) (exchange c e) ≡ exchange c (put_pair sc i (x, y) e)
  exchange-put Flight i x y e h = refl
  exchange-put Pair i x y e h = ap (λ (z : Mark V). put OfPair i z.value (exchange c e)) (sym h)

  exchange-whole : (e : Encounter V) → whole e ≡ true → whole (exchange c e) ≡ true
  exchange-whole e w = swap (eqb (length e.b) 16) (eqb (length e.a) 16) (eqb (length e.pair) 16) ∙ w

  narrow : (i : ℕ) (q : Quantity V) (sc : Scope) → slice_get c.quantities i ≡ Some q → q.scope ≡ sc → (a b : V) (x y : Mark V) → Marked m c.rows column i a x → Marked m c.rows column i b y → Beside sc x y
      → (s : ℕ) (e : Encounter V) → whole e ≡ true → HasBelow m n c.rows column i s e → HasBelow m n c.rows column (suc i) (held_by x y s) (put_pair sc i (x, y) e)
  narrow i q sc is scope a b x y mx my h s e w has k l =
      let few : i < 16 = omega (arith, nth-some c.quantities i q is, ok.quantities.0) in
      let e2 = put_pair sc i (x, y) e in
      let ws = c.rows in
      let u = in_use n k in
      let p = met_where m (λ j. nat_lt j i) ws (column k) e in
      let pa = all_held m reads_a i a ws (column k) in
      let pb = all_held m reads_b i b ws (column k) in
      let us = each_held m i a ws (column k) in
      let vs = each_held m i b ws (column k) in
      let stands : Stands q.scope i a b e2 = subst (λ z. Stands z i a b e2) (sym scope) (subst₂ (λ a b. Stands sc i a b e2) mx.value my.value (put-stands sc i x y e h w few)) in
      bit-joint k (bit_and (bit_and s x.of_a) y.of_b) (((u && p) && pa) && pb) (take x.eithers x.either) (take y.eithers y.either) us vs
      (bit-both (bit_and s x.of_a) y.of_b k ((u && p) && pa) pb (bit-both s x.of_a k (u && p) pa (has k l) (mx.of_a k l)) (my.of_b k l)) (mx.either k l) (my.either k l)
      ∙ ap bit (regroup u p pa pb (joined us vs)
      ∙ ap (λ t. u && t) (sym (met-next m c.quantities i q a b e e2 is (put-below sc i (x, y) e) stands ws (column k) ok.rows.1)))

  -- what is met with the values of two marks too
  pub narrow_met : (i : ℕ) (q : Quantity V) (sc : Scope) → slice_get c.quantities i ≡ Some q → q.scope ≡ sc → (a b : V) (x y : Mark V) → Marked m c.rows column i a x → Marked m c.rows column i b y → Beside sc x y
      → (s : Met) (e : Encounter V) → whole e ≡ true → MetBelow m n c.rows column c i s e → MetBelow m n c.rows column c (suc i) (narrowed (x, y) s) (put_pair sc i (x, y) e)
  narrow_met i q sc is scope a b x y mx my h s e w has = record {
    here = narrow i q sc is scope a b x y mx my h s.here e w has.here;
    exchanged = subst (HasBelow m n c.rows column (suc i) (held_by y x s.exchanged)) (exchange-put sc i x y e h) (narrow i q sc is scope b a y x my mx (beside-sym sc x y h) s.exchanged (exchange c e) (exchange-whole e w) has.exchanged);
  }

  -- before the first quantity nothing is ruled out
  pub none-read : (s : Met) (e : Encounter V) → AllInUse n s → MetBelow m n c.rows column c 0 s e
  none-read s e all = record {
    here = λ k l. all.here k l ∙ ap bit (sym (and-true (in_use n k)) ∙ ap (λ b. in_use n k && b) (sym (met_none m c.quantities c.rows (column k) e)));
    exchanged = λ k l. all.exchanged k l ∙ ap bit (sym (and-true (in_use n k)) ∙ ap (λ b. in_use n k && b) (sym (met_none m c.quantities c.rows (column k) (exchange c e))));
  }

  -- and after the last all is said
  pub all_read : (i : ℕ) → ((j : ℕ) → slice_get c.quantities (i + j) ≡ None) → (s : Met) (e : Encounter V) → MetBelow m n c.rows column c i s e → MetBy m n c.rows column c s e
  all_read i none s e has = record {
    here = λ k l. has.here k l ∙ ap (λ b. bit (in_use n k && b)) (met_all m c.quantities i none c.rows (column k) e ok.rows.1);
    exchanged = λ k l. has.exchanged k l ∙ ap (λ b. bit (in_use n k && b)) (met_all m c.quantities i none c.rows (column k) (exchange c e) ok.rows.1);
  }
