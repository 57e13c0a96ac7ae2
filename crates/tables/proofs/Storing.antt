-- Each edit does to the contents, through counts and lists, what it is said to do. Assumes nothing.
use Rattle.std.proofs.Common.{◌≡◌, ℕ, zero, suc, ◌+◌, ◌-◌, ◌*◌, ◌<◌, ◌≤◌, Bool, true, cond, ltb, List, [], ◌∷◌, ◌++◌, map, length, get_or, take, set, Some, None, Option, sym, refl, ap, ◌∙◌, subst, ap₂, inl, inr, arith, length-set, length-take}
use Rattle.std.specs.List.{range_with_len, AllByRecursion}
use Rattle.std.proofs.lemmas.List.FromFn.{map-range_with_len_more, take-map-range_with_len, length-map-range_with_len}
use Rattle.std.proofs.lemmas.List.{take_more_set, take-set-le, take-take, get_or-set_same, get_or-set_other}
use Rattle.std.proofs.lemmas.Bool.{cond_both, cond-true, cond-false, and_parts, ltb-true, ltb-false, cases_eq}
use Rattle.faults.specs.declared.SheetFault.{SheetFault}
use Rattle.kinds.specs.Meaning.{Meaning}
use Rattle.items.specs.declared.Counts.{Counts}
use Rattle.items.specs.declared.Entry.{Entry}
use Rattle.items.specs.declared.Entry.TheVariants.{Any}
use Rattle.tables.specs.Words.{changed, Any as Some-of}
use Rattle.results.specs.Results.{Results}
use Rattle.tables.specs.Contents.{Contents, Column}
use Rattle.tables.specs.Calls.{Edit, name_quantity, add_row, add_column, add_never, set_cell, set_default, clear_default, strike_column, strike_never, asked, edited, any_of, with_entries, Call, edit, try_issue, look_up, withdraw, Status, draft, issued, Sheet, opened, first_no, unless_refused, made_by, run}
use Rattle.tables.specs.Storage.{Lists, Bounded, RightLengths, column_of, columns_from, wiped, row_places, column_places, contents_of, lists_after, Kept, opened_on, kept_unless, kept_by, kept_after}
use Rattle.tables.specs.Promises.{StoredRightly, HeldRightly}
use Rattle.tables.proofs.Lists.{none-some, nth-set-same, nth-set-other}

pub no-refusal : (qs : List (Bool × SheetFault)) → first_no qs ≡ None → AllByRecursion (λ q. q.0 ≡ true) qs
no-refusal [] h = tt
no-refusal (q ∷ qs) h = cond_both q.0 (first_no qs) (Some q.1) (λ o. o ≡ None → AllByRecursion (λ q. q.0 ≡ true) (q ∷ qs)) (λ t k. (t, no-refusal qs k)) (λ _ k. none-some q.1 (sym k)) h

-- lists by the index
map-counting-same : {X : Type 0} (f g : ℕ → X) (a n : ℕ) → ((i : ℕ) → a ≤ i → i < a + n → f i ≡ g i) → map f (range_with_len a n) ≡ map g (range_with_len a n)
map-counting-same f g a zero h = refl
map-counting-same f g a (suc n) h = ap₂ ◌∷◌ (h a (omega arith) (omega arith)) (map-counting-same f g (a + 1) n (λ i p q. h i (omega arith) (omega arith)))

all-counting : (P : ℕ → Type 0) (g : ℕ → ℕ) (a n : ℕ) → ((i : ℕ) → a ≤ i → i < a + n → P (g i)) → AllByRecursion P (map g (range_with_len a n))
all-counting P g a zero h = tt
all-counting P g a (suc n) h = (h a (omega arith) (omega arith), all-counting P g (a + 1) n (λ i p q. h i (omega arith) (omega arith)))

some-counting : (P : ℕ → Type 0) (g : ℕ → ℕ) (a n i : ℕ) → a ≤ i → i < a + n → P (g i) → Some-of P (map g (range_with_len a n))
some-counting P g a zero i p q h = absurd (omega arith)
some-counting P g a (suc n) i p q h = elim (cases_eq i a) [ inl e ↦ inl (subst (λ j. P (g j)) e h) | inr d ↦ let r : a + 1 ≤ i = omega arith in inr (some-counting P g (a + 1) n i r (omega arith) h) ]

module _ {C : Type 0} where
  wiped-out : (es : List (Entry C)) (ks : List ℕ) (p : ℕ) → AllByRecursion (λ k. p ≡ k → ⊥) ks → get_or (wiped es ks) p Any ≡ get_or es p Any
  wiped-out es [] p h = refl
  wiped-out es (k ∷ ks) p h = wiped-out (set es k Any) ks p h.1 ∙ get_or-set_other es k p Any Any h.0

  set-any : (es : List (Entry C)) (k p : ℕ) → get_or es p Any ≡ Any → get_or (set es k Any) p Any ≡ Any
  set-any [] k p h = refl
  set-any (x ∷ es) zero zero h = refl
  set-any (x ∷ es) zero (suc p) h = h
  set-any (x ∷ es) (suc k) zero h = h
  set-any (x ∷ es) (suc k) (suc p) h = set-any es k p h

  set_here : (es : List (Entry C)) (k : ℕ) → get_or (set es k Any) k Any ≡ Any
  set_here [] k = refl
  set_here (x ∷ es) zero = refl
  set_here (x ∷ es) (suc k) = set_here es k

  wiped-any : (es : List (Entry C)) (ks : List ℕ) (p : ℕ) → get_or es p Any ≡ Any → get_or (wiped es ks) p Any ≡ Any
  wiped-any es [] p h = h
  wiped-any es (k ∷ ks) p h = wiped-any (set es k Any) ks p (set-any es k p h)

  wiped-in : (es : List (Entry C)) (ks : List ℕ) (p : ℕ) → Some-of (λ k. p ≡ k) ks → get_or (wiped es ks) p Any ≡ Any
  wiped-in es [] p h = absurd h
  wiped-in es (k ∷ ks) p (inl e) = wiped-any (set es k Any) ks p (subst (λ q. get_or (set es k Any) q Any ≡ Any) (sym e) (set_here es k))
  wiped-in es (k ∷ ks) p (inr h) = wiped-in (set es k Any) ks p h

  -- a row more
  row_more : (es : List (Entry C)) (n j : ℕ) → j < 24 → column_of (wiped es (row_places n)) (n + 1) j ≡ column_of es n j ++ (Any ∷ [])
  row_more es n j l =
      map-range_with_len_more (λ i. get_or (wiped es (row_places n)) (24 * i + j) Any) 0 n n (omega arith)
      ∙ ap₂ (λ xs x. xs ++ (x ∷ []))
      (map-counting-same (λ i. get_or (wiped es (row_places n)) (24 * i + j) Any) (λ i. get_or es (24 * i + j) Any) 0 n (λ i p q. wiped-out es (row_places n) (24 * i + j) (all-counting (λ k. 24 * i + j ≡ k → ⊥) (λ k. 24 * n + k) 0 24 (λ k _ _ e. omega arith))))
      (wiped-in es (row_places n) (24 * n + j) (some-counting (λ k. 24 * n + j ≡ k) (λ k. 24 * n + k) 0 24 j (omega arith) (omega arith) refl))

  -- a column wiped: the others stay
  column-out : (es : List (Entry C)) (n k j : ℕ) → k < 24 → j < 24 → (j ≡ k → ⊥) → column_of (wiped es (column_places k)) n j ≡ column_of es n j
  column-out es n k j p q d = map-counting-same (λ i. get_or (wiped es (column_places k)) (24 * i + j) Any) (λ i. get_or es (24 * i + j) Any) 0 n (λ i _ _. wiped-out es (column_places k) (24 * i + j) (all-counting (λ x. 24 * i + j ≡ x → ⊥) (λ x. 24 * x + k) 0 16 (λ x _ _ e. omega arith)))

  column-in : (es : List (Entry C)) (n k : ℕ) → n ≤ 16 → column_of (wiped es (column_places k)) n k ≡ map (λ i. Any) (range_with_len 0 n)
  column-in es n k p = map-counting-same (λ i. get_or (wiped es (column_places k)) (24 * i + k) Any) (λ i. Any) 0 n (λ i _ q. wiped-in es (column_places k) (24 * i + k) (some-counting (λ x. 24 * i + k ≡ x) (λ x. 24 * x + k) 0 16 i (omega arith) (omega arith) refl))

  any-counting : {X : Type 0} (a : ℕ) (xs : List X) → ◌≡◌ {A = List (Entry C)} (map (λ i. Any) (range_with_len a (length xs))) (map (λ x. Any) xs)
  any-counting a [] = refl
  any-counting a (x ∷ xs) = ap (λ ys. Any ∷ ys) (any-counting (a + 1) xs)

map-map : {X Y Z : Type 0} (g : Y → Z) (f : X → Y) (xs : List X) → map g (map f xs) ≡ map (λ x. g (f x)) xs
map-map g f [] = refl
map-map g f (x ∷ xs) = ap (λ ys. g (f x) ∷ ys) (map-map g f xs)

-- one place changed
counting-changed : {X : Type 0} (f h : ℕ → X) (g : X → X) (a n d j : ℕ) → j ≡ a + d → h j ≡ g (f j) → ((i : ℕ) → i < a + n → (i ≡ j → ⊥) → h i ≡ f i) → d < n → map h (range_with_len a n) ≡ changed d g (map f (range_with_len a n))
counting-changed f h g a zero d j e p o l = absurd (omega arith)
counting-changed f h g a (suc n) zero j e p o l =
    let here : j ≡ a = omega arith in
    ap₂ ◌∷◌ (subst (λ i. h i ≡ g (f i)) here p) (map-counting-same h f (a + 1) n (λ i q t. o i (omega arith) (λ k. omega arith)))
counting-changed f h g a (suc n) (suc d) j e p o l = ap₂ ◌∷◌ (o a (omega arith) (λ k. omega arith)) (counting-changed f h g (a + 1) n d j (omega arith) p (λ i q t. o i (omega arith) t) (omega arith))

pub set-changed : {X : Type 0} (xs : List X) (i : ℕ) (x : X) → changed i (λ y. x) xs ≡ set xs i x
set-changed [] i x = refl
set-changed (y ∷ xs) zero x = refl
set-changed (y ∷ xs) (suc i) x = ap (λ ys. y ∷ ys) (set-changed xs i x)

module _ {C : Type 0} (es : List (Entry C)) (i j : ℕ) (x : Entry C) (long : length es ≡ 384) (low : i < 16) (few : j < 24) where
  set-column : (n : ℕ) → i < n → column_of (set es (24 * i + j) x) n j ≡ set (column_of es n j) i x
  set-column n l =
      counting-changed (λ k. get_or es (24 * k + j) Any) (λ k. get_or (set es (24 * i + j) x) (24 * k + j) Any) (λ y. x) 0 n i i (omega arith)
      (get_or-set_same es (24 * i + j) x Any (omega arith)) (λ k _ d. get_or-set_other es (24 * i + j) (24 * k + j) x Any (λ e. d (omega arith))) l
      ∙ set-changed (column_of es n j) i x

  set_other : (n k : ℕ) → k < 24 → (k ≡ j → ⊥) → column_of (set es (24 * i + j) x) n k ≡ column_of es n k
  set_other n k l d = map-counting-same (λ y. get_or (set es (24 * i + j) x) (24 * y + k) Any) (λ y. get_or es (24 * y + k) Any) 0 n (λ y _ _. get_or-set_other es (24 * i + j) (24 * y + k) x Any (λ e. d (omega arith)))

module _ {C R : Type 0} where
  columns-same : (es fs : List (Entry C)) (n j : ℕ) (xs : List R) → ((k : ℕ) → j ≤ k → k < j + length xs → column_of fs n k ≡ column_of es n k) → columns_from fs n j xs ≡ columns_from es n j xs
  columns-same es fs n j [] h = refl
  columns-same es fs n j (x ∷ xs) h = ap₂ (λ c ks. record { entries = c; result = x } ∷ ks) (h j (omega arith) (omega arith)) (columns-same es fs n (suc j) xs (λ k p q. h k (omega arith) (omega arith)))

  columns-row : (es : List (Entry C)) (n j : ℕ) (xs : List R) → j + length xs ≤ 24 → columns_from (wiped es (row_places n)) (n + 1) j xs ≡ map (with_entries (λ ys. ys ++ (Any ∷ []))) (columns_from es n j xs)
  columns-row es n j [] h = refl
  columns-row es n j (x ∷ xs) h = ap₂ (λ c ks. record { entries = c; result = x } ∷ ks) (row_more es n j (omega arith)) (columns-row es n (suc j) xs (omega arith))

  pub columns-push : (es : List (Entry C)) (n j k : ℕ) (xs : List R) (x : R) → j + length xs ≡ k → columns_from es n j (xs ++ (x ∷ [])) ≡ columns_from es n j xs ++ (record { entries = column_of es n k; result = x } ∷ [])
  columns-push es n j k [] x e = let q : j ≡ k = omega arith in ap (λ i. record { entries = column_of es n i; result = x } ∷ []) q
  columns-push es n j k (y ∷ xs) x e = ap (λ ks. record { entries = column_of es n j; result = y } ∷ ks) (columns-push es n (suc j) k xs x (omega arith))

  columns-changed : (es fs : List (Entry C)) (n j d k : ℕ) (g : List (Entry C) → List (Entry C)) (xs : List R) → k ≡ j + d → column_of fs n k ≡ g (column_of es n k) → ((y : ℕ) → y < j + length xs → (y ≡ k → ⊥) → column_of fs n y ≡ column_of es n y) → columns_from fs n j xs ≡ changed d (with_entries g) (columns_from es n j xs)
  columns-changed es fs n j d k g [] e p o = refl
  columns-changed es fs n j zero k g (x ∷ xs) e p o =
      let here : k ≡ j = omega arith in
      ap₂ (λ c ks. record { entries = c; result = x } ∷ ks) (subst (λ y. column_of fs n y ≡ g (column_of es n y)) here p) (columns-same es fs n (suc j) xs (λ y a b. o y (omega arith) (λ q. omega arith)))
  columns-changed es fs n j (suc d) k g (x ∷ xs) e p o =
      ap₂ (λ c ks. record { entries = c; result = x } ∷ ks) (o j (omega arith) (λ q. omega arith)) (columns-changed es fs n (suc j) d k g xs (omega arith) p (λ y a b. o y (omega arith) b))

  columns-take : (es : List (Entry C)) (n j d : ℕ) (xs : List R) → columns_from es n j (take d xs) ≡ take d (columns_from es n j xs)
  columns-take es n j zero xs = refl
  columns-take es n j (suc d) [] = refl
  columns-take es n j (suc d) (x ∷ xs) = ap (λ ks. record { entries = column_of es n j; result = x } ∷ ks) (columns-take es n (suc j) d xs)

  pub columns-length : (es : List (Entry C)) (n j : ℕ) (xs : List R) → length (columns_from es n j xs) ≡ length xs
  columns-length es n j [] = refl
  columns-length es n j (x ∷ xs) = ap suc (columns-length es n (suc j) xs)

same-contents : {V C R : Type 0} (c d : Contents V C R) → c.quantities ≡ d.quantities → c.rows ≡ d.rows → c.columns ≡ d.columns → c.nevers ≡ d.nevers → c.default ≡ d.default → c ≡ d
same-contents c d q w k n e = λ i. record { quantities = q i; rows = w i; columns = k i; nevers = n i; default = e i }

wiped-length : {C : Type 0} (es : List (Entry C)) (ks : List ℕ) → length (wiped es ks) ≡ length es
wiped-length es [] = refl
wiped-length es (k ∷ ks) = wiped-length (set es k Any) ks ∙ length-set es k Any

module _ {V C R : Type 0} (m : Meaning V C) (r : Results R) (n : Counts) (l : Lists V C R) (b : Bounded n) (s : RightLengths l) where
  abbrev c : Contents V C R
  c = contents_of n l

  abbrev es : List (Entry C)
  es = l.entries

  abbrev columns : List (Entry C) → ℕ → List (Column C R)
  columns fs k = columns_from fs k 0 (take n.columns l.results)

  abbrev nevers : List (Entry C) → ℕ → ℕ → List (List (Entry C))
  nevers fs k v = map (λ j. column_of fs k (16 + j)) (range_with_len 0 v)

  shorter : {X : Type 0} (k q : ℕ) (xs : List X) → length xs ≡ q → k ≤ q → length (take k xs) ≡ k
  shorter k q xs e h = omega (arith, length-take k xs)

  few-columns : length (take n.columns l.results) ≡ n.columns
  few-columns = shorter n.columns 17 l.results s.results (omega (arith, b.columns))

  few-rows : length (take n.rows l.rows) ≡ n.rows
  few-rows = shorter n.rows 16 l.rows s.rows b.rows

  anys : (k : ℕ) → column_of (wiped es (column_places k)) n.rows k ≡ any_of (take n.rows l.rows)
  anys k = column-in es n.rows k b.rows ∙ ap (λ d. map (λ i. Any) (range_with_len 0 d)) (sym few-rows) ∙ any-counting 0 (take n.rows l.rows)

  pub stored : (k : Edit V C R) → AllByRecursion (λ q. q.0 ≡ true) (asked m r k c) → StoredRightly k n l
  stored (name_quantity q) y =
      let few : n.quantities < 16 = omega (arith, ltb-true (length (take n.quantities l.quantities)) 16 y.0, shorter n.quantities 16 l.quantities s.quantities b.quantities) in
      record {
        contents = same-contents _ (edited (name_quantity q) c) (take_more_set l.quantities n.quantities q (omega (arith, s.quantities))) refl refl refl refl;
        bounded = record { quantities = omega arith; rows = b.rows; columns = b.columns; nevers = b.nevers };
        lengths = record { quantities = length-set l.quantities n.quantities q ∙ s.quantities; rows = s.rows; entries = s.entries; results = s.results };
      }
  stored (add_row w) y =
      let few : n.rows < 16 = omega (arith, ltb-true (length (take n.rows l.rows)) 16 y.0, few-rows) in
      record {
        contents = same-contents _ (edited (add_row w) c) refl (take_more_set l.rows n.rows w (omega (arith, s.rows)))
            (columns-row es n.rows 0 (take n.columns l.results) (omega (arith, few-columns, b.columns)))
            (map-counting-same (λ j. column_of (wiped es (row_places n.rows)) (n.rows + 1) (16 + j)) (λ j. column_of es n.rows (16 + j) ++ (Any ∷ [])) 0 n.nevers (λ j _ q. row_more es n.rows (16 + j) (omega (arith, b.nevers))) ∙ sym (map-map (λ xs. xs ++ (Any ∷ [])) (λ j. column_of es n.rows (16 + j)) (range_with_len 0 n.nevers))) refl;
        bounded = record { quantities = b.quantities; rows = omega arith; columns = b.columns; nevers = b.nevers };
        lengths = record { quantities = s.quantities; rows = length-set l.rows n.rows w ∙ s.rows; entries = wiped-length es (row_places n.rows) ∙ s.entries; results = s.results };
      }
  stored (add_column x) y =
      let k = n.columns in
      let fs = wiped es (column_places k) in
      let few : k < 16 = omega (arith, ltb-true (length (columns es n.rows)) 16 y.0, columns-length es n.rows 0 (take k l.results), few-columns) in
      record {
        contents = same-contents _ (edited (add_column x) c) refl refl
            (ap (columns_from fs n.rows 0) (take_more_set l.results k x (omega (arith, s.results)))
            ∙ columns-push fs n.rows 0 k (take k l.results) x (omega (arith, few-columns))
            ∙ ap₂ (λ ks e. ks ++ (record { entries = e; result = x } ∷ [])) (columns-same es fs n.rows 0 (take k l.results) (λ j _ q. column-out es n.rows k j (omega arith) (omega (arith, few-columns)) (λ e. omega (arith, few-columns)))) (anys k))
            (map-counting-same (λ j. column_of fs n.rows (16 + j)) (λ j. column_of es n.rows (16 + j)) 0 n.nevers (λ j _ q. column-out es n.rows k (16 + j) (omega arith) (omega (arith, b.nevers)) (λ e. omega arith)))
            (ap (λ o. cond n.default o None) (nth-set-other l.results k 16 x (λ e. omega arith)));
        bounded = record { quantities = b.quantities; rows = b.rows; columns = omega arith; nevers = b.nevers };
        lengths = record { quantities = s.quantities; rows = s.rows; entries = wiped-length es (column_places k) ∙ s.entries; results = length-set l.results k x ∙ s.results };
      }
  stored add_never y =
      let k = n.nevers in
      let fs = wiped es (column_places (16 + k)) in
      let few : k < 8 = omega (arith, ltb-true (length (nevers es n.rows k)) 8 y.0, length-map-range_with_len (λ j. column_of es n.rows (16 + j)) 0 k) in
      record {
        contents = same-contents _ (edited add_never c) refl refl
            (columns-same es fs n.rows 0 (take n.columns l.results) (λ j _ q. column-out es n.rows (16 + k) j (omega arith) (omega (arith, few-columns, b.columns)) (λ e. omega (arith, few-columns, b.columns))))
            (map-range_with_len_more (λ j. column_of fs n.rows (16 + j)) 0 k k (omega arith)
            ∙ ap₂ (λ ns e. ns ++ (e ∷ [])) (map-counting-same (λ j. column_of fs n.rows (16 + j)) (λ j. column_of es n.rows (16 + j)) 0 k (λ j _ q. column-out es n.rows (16 + k) (16 + j) (omega arith) (omega arith) (λ e. omega arith))) (anys (16 + k)))
            refl;
        bounded = record { quantities = b.quantities; rows = b.rows; columns = b.columns; nevers = omega arith };
        lengths = record { quantities = s.quantities; rows = s.rows; entries = wiped-length es (column_places (16 + k)) ∙ s.entries; results = s.results };
      }
  stored (set_cell i j x) y =
      let t = and_parts (ltb i (length (take n.rows l.rows))) (cond (ltb j 16) (ltb j (length (columns es n.rows))) (ltb (j - 16) (length (nevers es n.rows n.nevers)))) y.0 in
      let low : i < n.rows = omega (arith, ltb-true i (length (take n.rows l.rows)) t.0, few-rows) in
      let low16 : i < 16 = omega (arith, b.rows) in
      record {
        contents = cond_both (ltb j 16) _ _ (λ d. contents_of n (lists_after (set_cell i j x) n l) ≡ d)
            (λ h. let here : j < n.columns = omega (arith, ltb-true j (length (columns es n.rows)) (sym (cond-true (ltb j 16) (ltb j (length (columns es n.rows))) (ltb (j - 16) (length (nevers es n.rows n.nevers))) h) ∙ t.1), columns-length es n.rows 0 (take n.columns l.results), few-columns) in
            let few : j < 24 = omega (arith, b.columns) in
            same-contents _ _ refl refl
            (columns-changed es (set es (24 * i + j) x) n.rows 0 j j (λ xs. set xs i x) (take n.columns l.results) (omega arith) (set-column es i j x s.entries low16 few n.rows low) (λ y q d. set_other es i j x s.entries low16 few n.rows y (omega (arith, few-columns, b.columns)) d))
            (map-counting-same (λ v. column_of (set es (24 * i + j) x) n.rows (16 + v)) (λ v. column_of es n.rows (16 + v)) 0 n.nevers (λ v _ q. set_other es i j x s.entries low16 few n.rows (16 + v) (omega (arith, b.nevers)) (λ e. omega (arith, b.columns))))
            refl)
            (λ h. let high : 16 ≤ j = ltb-false j 16 h in
            let here : j - 16 < n.nevers = omega (arith, ltb-true (j - 16) (length (nevers es n.rows n.nevers)) (sym (cond-false (ltb j 16) (ltb j (length (columns es n.rows))) (ltb (j - 16) (length (nevers es n.rows n.nevers))) h) ∙ t.1), length-map-range_with_len (λ j. column_of es n.rows (16 + j)) 0 n.nevers) in
            let few : j < 24 = omega (arith, b.nevers) in
            let same : j ≡ 16 + (j - 16) = omega arith in
            same-contents _ _ refl refl
            (columns-same es (set es (24 * i + j) x) n.rows 0 (take n.columns l.results) (λ k _ q. set_other es i j x s.entries low16 few n.rows k (omega (arith, few-columns, b.columns)) (λ e. omega (arith, few-columns, b.columns))))
            (counting-changed (λ v. column_of es n.rows (16 + v)) (λ v. column_of (set es (24 * i + j) x) n.rows (16 + v)) (λ xs. set xs i x) 0 n.nevers (j - 16) (j - 16) (omega arith)
            (subst (λ k. column_of (set es (24 * i + j) x) n.rows k ≡ set (column_of es n.rows k) i x) same (set-column es i j x s.entries low16 few n.rows low))
            (λ v q d. set_other es i j x s.entries low16 few n.rows (16 + v) (omega (arith, b.nevers)) (λ e. d (omega arith))) here)
            refl);
        bounded = b;
        lengths = record { quantities = s.quantities; rows = s.rows; entries = length-set es (24 * i + j) x ∙ s.entries; results = s.results };
      }
  stored (set_default x) y = record {
    contents = same-contents _ (edited (set_default x) c) refl refl
        (ap (columns_from es n.rows 0) (take-set-le n.columns l.results 16 x b.columns)) refl (nth-set-same l.results 16 x (omega (arith, s.results)));
    bounded = record { quantities = b.quantities; rows = b.rows; columns = b.columns; nevers = b.nevers };
    lengths = record { quantities = s.quantities; rows = s.rows; entries = s.entries; results = length-set l.results 16 x ∙ s.results };
  }
  stored clear_default y = record { contents = refl; bounded = record { quantities = b.quantities; rows = b.rows; columns = b.columns; nevers = b.nevers }; lengths = s }
  stored strike_column y = record {
    contents = same-contents _ (edited strike_column c) refl refl
        (ap (columns_from es n.rows 0) (sym (take-take (n.columns - 1) n.columns l.results (omega arith))) ∙ columns-take es n.rows 0 (n.columns - 1) (take n.columns l.results)
        ∙ ap (λ d. take (d - 1) (columns es n.rows)) (sym (columns-length es n.rows 0 (take n.columns l.results) ∙ few-columns))) refl refl;
    bounded = record { quantities = b.quantities; rows = b.rows; columns = omega (arith, b.columns); nevers = b.nevers };
    lengths = s;
  }
  stored strike_never y = record {
    contents = same-contents _ (edited strike_never c) refl refl refl
        (sym (take-map-range_with_len (λ j. column_of es n.rows (16 + j)) 0 n.nevers (n.nevers - 1) (omega arith))
        ∙ ap (λ d. take (d - 1) (nevers es n.rows n.nevers)) (sym (length-map-range_with_len (λ j. column_of es n.rows (16 + j)) 0 n.nevers))) refl;
    bounded = record { quantities = b.quantities; rows = b.rows; columns = b.columns; nevers = omega (arith, b.nevers) };
    lengths = s;
  }

module _ {V C R : Type 0} (m : Meaning V C) (r : Results R) where
  abbrev pub Holds : Kept V C R → Sheet V C R → Type 0
  Holds k s = (k.status ≡ s.status) × ((contents_of k.counts k.lists ≡ s.contents) × (Bounded k.counts × RightLengths k.lists))

  holds-edit : (k : Edit V C R) (n : Counts) (l : Lists V C R) → Bounded n → RightLengths l → (o : Option SheetFault) → first_no (asked m r k (contents_of n l)) ≡ o
      → Holds (kept_unless m r o k n l) (record { status = draft; contents = unless_refused m r o (edited k (contents_of n l)) (contents_of n l) })
  holds-edit k n l b s None e = let t = stored m r n l b s k (no-refusal (asked m r k (contents_of n l)) e) in (refl, (t.contents, (t.bounded, t.lengths)))
  holds-edit k n l b s (Some i) e = (refl, (refl, (b, s)))

  pub holds_after : (k : Call V C R) (s : Status) (n : Counts) (l : Lists V C R) → Bounded n → RightLengths l → Holds (kept_by m r k s n l) (made_by m r k s (contents_of n l))
  holds_after (edit k) draft n l b s = holds-edit k n l b s (first_no (asked m r k (contents_of n l))) refl
  holds_after (edit k) issued n l b s = (refl, (refl, (b, s)))
  holds_after (try_issue e) draft n l b s = (refl, (refl, (b, s)))
  holds_after (try_issue e) issued n l b s = (refl, (refl, (b, s)))
  holds_after (look_up e) t n l b s = (refl, (refl, (b, s)))
  holds_after withdraw t n l b s = (refl, (refl, (b, s)))

  holds-run : (ks : List (Call V C R)) (k : Kept V C R) (s : Sheet V C R) → Holds k s → Holds (kept_after m r k ks) (run m r s ks)
  holds-run [] k s h = h
  holds-run (x ∷ ks) k s h =
      holds-run ks (kept_by m r x k.status k.counts k.lists) (made_by m r x s.status s.contents)
      (subst (λ c. Holds (kept_by m r x k.status k.counts k.lists) (made_by m r x s.status c)) h.1.0
      (subst (λ t. Holds (kept_by m r x k.status k.counts k.lists) (made_by m r x t (contents_of k.counts k.lists))) h.0
      (holds_after x k.status k.counts k.lists h.1.1.0 h.1.1.1)))

  pub held-rightly : (calls : List (Call V C R)) (l : Lists V C R) → RightLengths l → HeldRightly m r l calls
  held-rightly ks l s =
      let h = holds-run ks (opened_on l) opened (refl, (refl, (record { quantities = omega arith; rows = omega arith; columns = omega arith; nevers = omega arith }, s))) in
      record { status = h.0; contents = h.1.0; bounded = h.1.1.0; lengths = h.1.1.1 }
