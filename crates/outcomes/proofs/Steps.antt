-- The loops over the rows of a column, the nevers and the columns. Assumes nothing.
use Rattle.std.proofs.Common.{length-take, get_or-take, zero, suc, find, zip, arith, ◌≡◌, ℕ, ◌+◌, ◌-◌, ◌<◌, ◌≤◌, Bool, true, false, cond, not, ◌&&◌, ◌||◌, List, [], ◌∷◌, map, length, get_or, take, drop, Some, sym, refl, ap, ◌∙◌, add-one}
use Rattle.std.specs.List.{range_with_len}
use Rattle.kinds.specs.Meaning.{Meaning}
use Rattle.results.specs.Results.{Results}
use Rattle.items.specs.declared.Row.{Row}
use Rattle.items.specs.declared.Entry.{Entry}
use Rattle.tables.specs.Contents.{Encounter}
use Rattle.tables.specs.Outcomes.{met, some_met, entry_holds, columns_met, unequal}
use Rattle.tables.specs.Storage.{column_of, columns_from}
use Rattle.tables.specs.Words.{all_of}
use Rattle.lists.proofs.Chains.{any_of}
use Rattle.std.proofs.lemmas.List.{at_drop_more, drop_all}

module _ {V C : Type 0} (m : Meaning V C) (e : Encounter V) where
  -- a column is met where each entry holds in its row
  pub met-by-row : (ws : List Row) (xs : List (Entry C)) → all_of (λ p. entry_holds m p.0 p.1 e) (zip ws xs) ≡ met m ws xs e
  met-by-row [] xs = refl
  met-by-row (w ∷ ws) [] = refl
  met-by-row (w ∷ ws) (x ∷ xs) = ap (λ b. entry_holds m w x e && b) (met-by-row ws xs)

  pub met-of-some : {X : Type 0} (ws : List Row) (f : X → List (Entry C)) (ks : List X) → any_of (λ k. met m ws (f k) e) ks ≡ some_met m ws (map f ks) e
  met-of-some ws f [] = refl
  met-of-some ws f (k ∷ ks) = ap (λ b. met m ws (f k) e || b) (met-of-some ws f ks)

  -- one column
  module _ {R : Type 0} (ws : List Row) (es : List (Entry C)) (w : ℕ) (rs : List R) where
    abbrev pub met_at : ℕ → List (ℕ × R)
    met_at j = columns_met m j ws (columns_from es w j (drop j rs)) e

    pub column-here : (j : ℕ) (d : R) {t r : Bool} → j < length rs → t ≡ met m ws (column_of es w j) e → t ≡ r
        → met_at j ≡ cond r ((j, get_or rs j d) ∷ met_at (j + 1)) (met_at (j + 1))
    column-here j d h holds is =
        at_drop_more (λ rs. columns_met m j ws (columns_from es w j rs) e) rs j d h
        ∙ ap (λ k. cond (met m ws (column_of es w j) e) ((j, get_or rs j d) ∷ columns_met m k ws (columns_from es w k (drop (j + 1) rs)) e) (columns_met m k ws (columns_from es w k (drop (j + 1) rs)) e)) (sym (add-one j))
        ∙ ap (λ b. cond b ((j, get_or rs j d) ∷ met_at (j + 1)) (met_at (j + 1))) (sym holds ∙ is)

    pub column-end : (j : ℕ) → length rs ≤ j → met_at j ≡ []
    column-end j h = ap (λ ks. columns_met m j ws (columns_from es w j ks) e) (drop_all j rs h)

turn : {X : Type 0} (b : Bool) (x y : X) → cond b x y ≡ cond (not b) y x
turn true x y = refl
turn false x y = refl

module _ {R : Type 0} (r : Results R) where
  unequal-if : (b : Bool) (x : R) (k : ℕ × R) (ks : List (ℕ × R)) → unequal r x (cond b (k ∷ ks) ks) ≡ cond (b && not (r.same x k.1)) (Some k.0) (unequal r x ks)
  unequal-if true x k ks = turn (r.same x k.1) (unequal r x ks) (Some k.0)
  unequal-if false x k ks = refl

  module _ {V C : Type 0} (m : Meaning V C) (e : Encounter V) (ws : List Row) (es : List (Entry C)) (w : ℕ) where
    -- the first column from number i on that is met with another result, among the first n
    pub unequal-found : (rs : List R) (n : ℕ) (x : R) → n ≤ length rs → (k i : ℕ) → n - i ≡ k
        → find (λ j. met m ws (column_of es w j) e && not (r.same x (get_or rs j x))) (range_with_len i k) ≡ unequal r x (met_at m e ws es w (take n rs) i)
    unequal-found rs n x long zero i q = sym (ap (unequal r x) (column-end m e ws es w (take n rs) i (omega (arith, q, length-take n rs))))
    unequal-found rs n x long (suc k) i q =
        let here : i < n = omega (arith, q) in
        let inside : i < length (take n rs) = omega (arith, length-take n rs) in
        let later = met_at m e ws es w (take n rs) (i + 1) in
        ap (λ o. cond (met m ws (column_of es w i) e && not (r.same x (get_or rs i x))) (Some i) o) (unequal-found rs n x long k (i + 1) (omega (arith, q)))
        ∙ ap (λ y. cond (met m ws (column_of es w i) e && not (r.same x y)) (Some i) (unequal r x later)) (sym (get_or-take n rs i x here))
        ∙ sym (ap (unequal r x) (column-here m e ws es w (take n rs) i x inside refl refl) ∙ unequal-if (met m ws (column_of es w i) e) x (i, get_or (take n rs) i x) later)
