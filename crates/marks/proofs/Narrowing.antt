-- A mark with one more row. Assumes nothing.
use Rattle.std.proofs.Common.{◌≡◌, ℕ, ◌+◌, ◌*◌, ◌<◌, ◌≤◌, min, bit_and, Bool, true, false, cond, ◌&&◌, List, [], ◌∷◌, ◌++◌, map, length, take, set, sym, refl, ap, ◌∙◌, ap₂, subst, eqb, get_or, add-zero, arith}
use Rattle.std.specs.Int.{bit_at}
use Rattle.std.proofs.lemmas.Nat.Bits.{bit_at_and, bit_at_ones}
use Rattle.std.proofs.lemmas.Bool.{eq-eqb, ne_eqb}
use Rattle.std.proofs.lemmas.List.{append-nil, map-append, take_more, take_more_set, length-take, length-set, take_all}
use Rattle.std.proofs.lemmas.List.FromFn.{length-map-range_with_len, map-range_with_len_more}
use Rattle.kinds.specs.Meaning.{Meaning}
use Rattle.items.specs.declared.Mode.{Mode}
use Rattle.items.specs.declared.Row.{Row}
use Rattle.items.specs.declared.Entry.{Entry}
use Rattle.items.specs.declared.Entry.TheVariants.{Any}
use Rattle.tables.specs.Storage.{column_of}
use Rattle.sets.specs.declared.Mark.{Mark}
use Rattle.sets.specs.Marks.{held, all_held, each_held, reads_a, reads_b, is_either, Marked}
use Rattle.sets.specs.Sets.{bit, Has}
use Rattle.marks.specs.Joins.{blank_mark, Joined}

and-assoc : (a b c : Bool) → (a && (b && c)) ≡ ((a && b) && c)
and-assoc true b c = refl
and-assoc false b c = refl

cond-and : (t h a b : Bool) → cond t (h && (a && b)) (a && b) ≡ (cond t (h && a) a && b)
cond-and true h a b = and-assoc h a b
cond-and false h a b = refl

cond-append : (t h : Bool) (xs ys : List Bool) → cond t (h ∷ (xs ++ ys)) (xs ++ ys) ≡ cond t (h ∷ xs) xs ++ ys
cond-append true h xs ys = refl
cond-append false h xs ys = refl

-- a set that one more row has narrowed, if it reads the quantity (e) in a mode of the sort (r)
narrow : (e r a h : Bool) (x s y k : ℕ) → e ≡ true → y ≡ cond r (bit_and x s) x → bit_at x k ≡ bit a → bit_at s k ≡ bit h → bit_at y k ≡ bit (a && cond (e && r) (h && true) true)
narrow false r a h x s y k e is p q = cc
narrow true true true true x s y k e is p q = ap (λ y. bit_at y k) is ∙ bit_at_and x s k ∙ ap₂ min p q
narrow true true true false x s y k e is p q = ap (λ y. bit_at y k) is ∙ bit_at_and x s k ∙ ap₂ min p q
narrow true true false true x s y k e is p q = ap (λ y. bit_at y k) is ∙ bit_at_and x s k ∙ ap₂ min p q
narrow true true false false x s y k e is p q = ap (λ y. bit_at y k) is ∙ bit_at_and x s k ∙ ap₂ min p q
narrow true false true h x s y k e is p q = ap (λ y. bit_at y k) is ∙ p
narrow true false false h x s y k e is p q = ap (λ y. bit_at y k) is ∙ p

-- and where it does not read it
wide : (e r a h : Bool) (x k : ℕ) → e ≡ false → bit_at x k ≡ bit a → bit_at x k ≡ bit (a && cond (e && r) (h && true) true)
wide true r a h x k e p = cc
wide false r true h x k e p = p
wide false r false h x k e p = p

-- the sets of the rows of mode either, with one more row
module _ (k : ℕ) (n : ℕ) (xs : List ℕ) (hs : List Bool) (p : map (λ s. bit_at s k) (take n xs) ≡ map bit hs) where
  longer : (e r h : Bool) (s : ℕ) (c : ℕ) (ys : List ℕ) → e ≡ true → c ≡ n + cond r 1 0 → ys ≡ cond r (set xs n s) xs → n < length xs → bit_at s k ≡ bit h
      → map (λ s. bit_at s k) (take c ys) ≡ map bit (hs ++ cond (e && r) (h ∷ []) [])
  longer false r h s c ys e f g lt q = cc
  longer true true h s c ys e f g lt q =
      ap₂ (λ c ys. map (λ s. bit_at s k) (take c ys)) f g ∙ ap (map (λ s. bit_at s k)) (take_more_set xs n s lt) ∙ map-append (λ s. bit_at s k) (take n xs) (s ∷ [])
      ∙ ap₂ (λ bs b. bs ++ b ∷ []) p q ∙ sym (map-append bit hs (h ∷ []))
  longer true false h s c ys e f g lt q = ap₂ (λ c ys. map (λ s. bit_at s k) (take c ys)) (f ∙ add-zero n) g ∙ p ∙ sym (ap (map bit) (append-nil hs))

  as-long : (e r h : Bool) → e ≡ false → map (λ s. bit_at s k) (take n xs) ≡ map bit (hs ++ cond (e && r) (h ∷ []) [])
  as-long true r h e = cc
  as-long false r h e = p ∙ sym (ap (map bit) (append-nil hs))

module _ {V C : Type 0} (m : Meaning V C) (i : ℕ) (v : V) where
  held-append : (sort : Mode → Bool) (ws : List Row) (xs : List (Entry C)) (w : Row) (x : Entry C) → length ws ≡ length xs
      → all_held m sort i v (ws ++ w ∷ []) (xs ++ x ∷ []) ≡ (all_held m sort i v ws xs && cond (eqb w.quantity i && sort w.mode) (held m x v && true) true)
  held-append sort [] [] w x h = refl
  held-append sort [] (y ∷ ys) w x h = absurd (omega arith)
  held-append sort (u ∷ us) [] w x h = absurd (omega arith)
  held-append sort (u ∷ us) (y ∷ ys) w x h =
      let t = eqb u.quantity i && sort u.mode in
      ap (λ b. cond t (held m y v && b) b) (held-append sort us ys w x (omega arith))
      ∙ cond-and t (held m y v) (all_held m sort i v us ys) (cond (eqb w.quantity i && sort w.mode) (held m x v && true) true)

  each-append : (ws : List Row) (xs : List (Entry C)) (w : Row) (x : Entry C) → length ws ≡ length xs
      → each_held m i v (ws ++ w ∷ []) (xs ++ x ∷ []) ≡ each_held m i v ws xs ++ cond (eqb w.quantity i && is_either w.mode) (held m x v ∷ []) []
  each-append [] [] w x h = refl
  each-append [] (y ∷ ys) w x h = absurd (omega arith)
  each-append (u ∷ us) [] w x h = absurd (omega arith)
  each-append (u ∷ us) (y ∷ ys) w x h =
      let t = eqb u.quantity i && is_either u.mode in
      ap (λ b. cond t (held m y v ∷ b) b) (each-append us ys w x (omega arith))
      ∙ cond-append t (held m y v) (each_held m i v us ys) (cond (eqb w.quantity i && is_either w.mode) (held m x v ∷ []) [])

  blank-marked : (column : ℕ → List (Entry C)) → Marked m [] column i v (blank_mark v)
  blank-marked column = record { value = refl; of_a = λ k h. bit_at_ones 32 k (omega arith); of_b = λ k h. bit_at_ones 32 k (omega arith); either = λ k h. refl }

  pub marked-none : (column : ℕ → List (Entry C)) (x : Mark V) → x ≡ blank_mark v → Marked m [] column i v x
  marked-none column x is = subst (Marked m [] column i v) (sym is) (blank-marked column)

  module _ (ws us : List Row) (f g : ℕ → List (Entry C)) (w : Row) (e : ℕ → Entry C) (x : Mark V)
      (is : us ≡ ws ++ w ∷ []) (next : (k : ℕ) → g k ≡ f k ++ e k ∷ []) (long : (k : ℕ) → length ws ≡ length (f k)) (mark : Marked m ws f i v x) where
    held-is : (sort : Mode → Bool) (k : ℕ) → all_held m sort i v us (g k) ≡ (all_held m sort i v ws (f k) && cond (eqb w.quantity i && sort w.mode) (held m (e k) v && true) true)
    held-is sort k = ap₂ (all_held m sort i v) is (next k) ∙ held-append sort ws (f k) w (e k) (long k)

    each-is : (k : ℕ) → each_held m i v us (g k) ≡ each_held m i v ws (f k) ++ cond (eqb w.quantity i && is_either w.mode) (held m (e k) v ∷ []) []
    each-is k = ap₂ (each_held m i v) is (next k) ∙ each-append ws (f k) w (e k) (long k)

    -- a row that reads another quantity
    pub marked-past : eqb w.quantity i ≡ false → Marked m us g i v x
    marked-past other = record {
      value = mark.value;
      of_a = λ k h. wide (eqb w.quantity i) (reads_a w.mode) (all_held m reads_a i v ws (f k)) (held m (e k) v) x.of_a k other (mark.of_a k h) ∙ sym (ap bit (held-is reads_a k));
      of_b = λ k h. wide (eqb w.quantity i) (reads_b w.mode) (all_held m reads_b i v ws (f k)) (held m (e k) v) x.of_b k other (mark.of_b k h) ∙ sym (ap bit (held-is reads_b k));
      either = λ k h. as-long k x.eithers x.either (each_held m i v ws (f k)) (mark.either k h) (eqb w.quantity i) (is_either w.mode) (held m (e k) v) other ∙ sym (ap (map bit) (each-is k));
    }

    -- a row that reads it, whose set is s
    pub marked-more : (s : ℕ) (y : Mark V) → eqb w.quantity i ≡ true → x.eithers < length x.either → Has s (λ k. held m (e k) v) → Joined x w.mode s y → Marked m us g i v y
    marked-more s y reads room has j = record {
      value = j.value ∙ mark.value;
      of_a = λ k h. narrow (eqb w.quantity i) (reads_a w.mode) (all_held m reads_a i v ws (f k)) (held m (e k) v) x.of_a s y.of_a k reads j.of_a (mark.of_a k h) (has k h) ∙ sym (ap bit (held-is reads_a k));
      of_b = λ k h. narrow (eqb w.quantity i) (reads_b w.mode) (all_held m reads_b i v ws (f k)) (held m (e k) v) x.of_b s y.of_b k reads j.of_b (mark.of_b k h) (has k h) ∙ sym (ap bit (held-is reads_b k));
      either = λ k h. longer k x.eithers x.either (each_held m i v ws (f k)) (mark.either k h) (eqb w.quantity i) (is_either w.mode) (held m (e k) v) s y.eithers y.either reads j.eithers j.either room (has k h) ∙ sym (ap (map bit) (each-is k));
    }

-- one more row adds at most one set
grown : (b : Bool) (n c s : ℕ) (xs ys : List ℕ) (a : ℕ) → c ≡ a + cond b 1 0 → ys ≡ cond b (set xs a s) xs → a ≤ n → (c ≤ n + 1) × (length ys ≡ length xs)
grown true n c s xs ys a e f h = (omega arith, ap length f ∙ length-set xs a s)
grown false n c s xs ys a e f h = (omega arith, ap length f)

pub joined-few : {V : Type 0} (n s : ℕ) (w : Mode) (x y : Mark V) → Joined x w s y → x.eithers ≤ n → (y.eithers ≤ n + 1) × (length y.either ≡ length x.either)
joined-few n s w x y j h = grown (is_either w) n y.eithers s x.either y.either x.eithers j.eithers j.either h

-- the mark so far, of the first n rows
module _ {V C : Type 0} (m : Meaning V C) (q : ℕ) (v : V) (rs ws : List Row) (es : List (Entry C)) (n : ℕ) (d : Row) (x : Mark V)
    (is : rs ≡ ws) (mark : Marked m (take n ws) (λ k. column_of es n k) q v x) where
  module _ (lt : n < length rs) where
    abbrev here : Row
    here = get_or rs n d

    rows-more : take (n + 1) ws ≡ take n ws ++ here ∷ []
    rows-more = subst (λ ws. take (n + 1) ws ≡ take n ws ++ here ∷ []) is (take_more rs n d lt)

    as-many : (k : ℕ) → length (take n ws) ≡ length (column_of es n k)
    as-many k = omega (arith, length-take n ws, ap length is, length-map-range_with_len (λ i. get_or es (24 * i + k) Any) 0 n)

    column-more : (k : ℕ) → column_of es (n + 1) k ≡ column_of es n k ++ get_or es (24 * n + k) Any ∷ []
    column-more k = map-range_with_len_more (λ i. get_or es (24 * i + k) Any) 0 n n (omega arith)

    abbrev pub MarkedOn : Mark V → Type 0
    MarkedOn y = Marked m (take (n + 1) ws) (λ k. column_of es (n + 1) k) q v y

    pub row-past : (here.quantity ≡ q → ⊥) → MarkedOn x
    row-past other = marked-past m q v (take n ws) (take (n + 1) ws) (λ k. column_of es n k) (λ k. column_of es (n + 1) k) here (λ k. get_or es (24 * n + k) Any) x rows-more column-more as-many mark (ne_eqb here.quantity q other)

    pub row-more : (s : ℕ) (y : Mark V) → here.quantity ≡ q → x.eithers < length x.either → Has s (λ k. held m (get_or es (24 * n + k) Any) v) → Joined x here.mode s y → MarkedOn y
    row-more s y reads = marked-more m q v (take n ws) (take (n + 1) ws) (λ k. column_of es n k) (λ k. column_of es (n + 1) k) here (λ k. get_or es (24 * n + k) Any) x rows-more column-more as-many mark s y (eq-eqb here.quantity q reads)

  pub rows-all : (w : ℕ) → length ws ≡ w → w ≡ n → Marked m ws (λ k. column_of es w k) q v x
  rows-all w long all =
      let e : length ws ≤ n = omega arith in
      subst (λ w. Marked m ws (λ k. column_of es w k) q v x) (sym all) (subst (λ ws. Marked m ws (λ k. column_of es n k) q v x) (take_all n ws e) mark)
