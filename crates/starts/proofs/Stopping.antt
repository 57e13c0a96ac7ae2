-- The earliest stop of some cells, one entry and one column after the other. Assumes nothing.
use Rattle.std.proofs.Common.{◌≡◌, ℕ, zero, suc, ◌+◌, ◌-◌, ◌≤◌, Bool, true, false, cond, eqb, List, [], ◌∷◌, ◌++◌, map, zip, filter, length, take, None, Option, sym, refl, ap, ◌∙◌, ap₂, add-one, arith, length-take}
use Rattle.std.specs.List.{fold, range_with_len}
use Rattle.kinds.specs.Meaning.{Meaning, earlier}
use Rattle.kinds.proofs.Earliest.{earlier-none, earlier-assoc}
use Rattle.items.specs.declared.Row.{Row}
use Rattle.items.specs.declared.Entry.{Entry}
use Rattle.items.specs.declared.Entry.TheVariants.{Any, Cell}
use Rattle.tables.specs.Words.{each}
use Rattle.tables.specs.Starts.{reading, earliest}
use Rattle.tables.specs.Storage.{column_of, columns_from}
use Rattle.starts.specs.Stops.{stop_of}

cond-same : {X : Type 0} (b : Bool) (x : X) → cond b x x ≡ x
cond-same true x = refl
cond-same false x = refl

module _ {V C : Type 0} (m : Meaning V C) (v : V) where
  earliest-append : (xs ys : List C) → earliest m (xs ++ ys) v ≡ earlier m.rank (earliest m xs v) (earliest m ys v)
  earliest-append [] ys = refl
  earliest-append (x ∷ xs) ys = ap (earlier m.rank (m.stop x v)) (earliest-append xs ys) ∙ earlier-assoc m.rank (m.stop x v) (earliest m xs v) (earliest m ys v)

  earliest-if : (b : Bool) (x : C) (xs : List C) → earliest m (cond b (x ∷ xs) xs) v ≡ earlier m.rank (cond b (m.stop x v) None) (earliest m xs v)
  earliest-if true x xs = refl
  earliest-if false x xs = refl

  folded-if : (b : Bool) (p : Row × Entry C) (ps : List (Row × Entry C)) (o : Option V) → fold (λ s p. earlier m.rank s (stop_of m p.1 v)) o (cond b (p ∷ ps) ps) ≡ fold (λ s p. earlier m.rank s (stop_of m p.1 v)) (earlier m.rank o (cond b (stop_of m p.1 v) None)) ps
  folded-if true p ps o = refl
  folded-if false p ps o = ap (λ o. fold (λ s p. earlier m.rank s (stop_of m p.1 v)) o ps) (sym (earlier-none m.rank o))

  reading-here : (i : ℕ) (w : Row) (ws : List Row) (x : Entry C) (xs : List (Entry C)) → earliest m (reading i (w ∷ ws) (x ∷ xs)) v ≡ earlier m.rank (cond (eqb w.quantity i) (stop_of m x v) None) (earliest m (reading i ws xs) v)
  reading-here i w ws Any xs = sym (ap (λ o. earlier m.rank o (earliest m (reading i ws xs) v)) (cond-same (eqb w.quantity i) None))
  reading-here i w ws (Cell x) xs = earliest-if (eqb w.quantity i) x (reading i ws xs)

  -- the entries of a column in rows that read quantity i, row by row
  pub folded-rows : (i : ℕ) (ws : List Row) (es : List (Entry C)) (o : Option V) → fold (λ s p. earlier m.rank s (stop_of m p.1 v)) o (filter (λ p. eqb p.0.quantity i) (zip ws es)) ≡ earlier m.rank o (earliest m (reading i ws es) v)
  folded-rows i [] es o = sym (earlier-none m.rank o)
  folded-rows i (w ∷ ws) [] o = sym (earlier-none m.rank o)
  folded-rows i (w ∷ ws) (x ∷ xs) o =
      let here = cond (eqb w.quantity i) (stop_of m x v) None in
      folded-if (eqb w.quantity i) (w, x) (filter (λ p. eqb p.0.quantity i) (zip ws xs)) o
      ∙ folded-rows i ws xs (earlier m.rank o here) ∙ sym (earlier-assoc m.rank o here (earliest m (reading i ws xs) v)) ∙ sym (ap (earlier m.rank o) (reading-here i w ws x xs))

  -- one column after the other
  pub folded-columns : (f : ℕ → List C) (ns : List ℕ) (o : Option V) → fold (λ s j. earlier m.rank s (earliest m (f j) v)) o ns ≡ earlier m.rank o (earliest m (each ns f) v)
  folded-columns f [] o = sym (earlier-none m.rank o)
  folded-columns f (n ∷ ns) o =
      folded-columns f ns (earlier m.rank o (earliest m (f n) v)) ∙ sym (earlier-assoc m.rank o (earliest m (f n) v) (earliest m (each ns f) v)) ∙ sym (ap (earlier m.rank o) (earliest-append (f n) (each ns f)))

  -- the columns and then the nevers
  module _ (i : ℕ) (ws : List Row) (es : List (Entry C)) (w : ℕ) where
    abbrev cells : ℕ → List C
    cells k = reading i ws (column_of es w k)

    each-column : {R : Type 0} (j : ℕ) (rs : List R) → each (range_with_len j (length rs)) cells ≡ each (columns_from es w j rs) (λ k. reading i ws k.entries)
    each-column j [] = refl
    each-column j (x ∷ xs) = ap (λ cs. cells j ++ cs) (ap (λ k. each (range_with_len k (length xs)) cells) (add-one j) ∙ each-column (suc j) xs)

    each-never : (k b : ℕ) → each (range_with_len (16 + b) k) cells ≡ each (map (λ j. column_of es w (16 + j)) (range_with_len b k)) (reading i ws)
    each-never zero b = refl
    each-never (suc k) b = let q : 16 + b + 1 ≡ 16 + (b + 1) = omega arith in ap (λ cs. cells (16 + b) ++ cs) (ap (λ a. each (range_with_len a k) cells) q ∙ each-never k (b + 1))

    pub all-cells : {R : Type 0} (n k : ℕ) (rs : List R) (columns nevers : Option V) {stop : Option V} → n ≤ length rs → columns ≡ earliest m (each (range_with_len 0 (n - 0)) cells) v → nevers ≡ earliest m (each (range_with_len 16 (16 + k - 16)) cells) v → stop ≡ earlier m.rank columns nevers
        → stop ≡ earliest m (each (columns_from es w 0 (take n rs)) (λ k. reading i ws k.entries) ++ each (map (λ j. column_of es w (16 + j)) (range_with_len 0 k)) (reading i ws)) v
    all-cells n k rs columns nevers long c e is =
        let a : n - 0 ≡ length (take n rs) = omega (arith, length-take n rs) in
        let b : 16 + k - 16 ≡ k = omega arith in
        is ∙ ap₂ (earlier m.rank)
        (c ∙ ap (λ xs. earliest m xs v) (ap (λ l. each (range_with_len 0 l) cells) a ∙ each-column 0 (take n rs)))
        (e ∙ ap (λ xs. earliest m xs v) (ap (λ l. each (range_with_len 16 l) cells) b ∙ each-never k 0))
        ∙ sym (earliest-append (each (columns_from es w 0 (take n rs)) (λ k. reading i ws k.entries)) (each (map (λ j. column_of es w (16 + j)) (range_with_len 0 k)) (reading i ws)))
