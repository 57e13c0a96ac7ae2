-- A column, row by row: what is left after the first row. Assumes nothing.
use Rattle.std.proofs.Common.{◌&&◌, [], ◌≡◌, ℕ, zero, suc, ◌+◌, ◌*◌, List, ◌∷◌, map, length, get_or, drop, zip, sym, refl, ap, ◌∙◌, ap₂, arith}
use Rattle.std.specs.List.{range_with_len}
use Rattle.std.proofs.lemmas.List.{get_or-drop}
use Rattle.items.specs.declared.Row.{Row}
use Rattle.items.specs.declared.Entry.{Entry}
use Rattle.items.specs.declared.Entry.TheVariants.{Any}
use Rattle.items.specs.declared.Quantity.{Quantity}
use Rattle.kinds.specs.Meaning.{Meaning}
use Rattle.tables.specs.Acceptance.{entry_lawful, entries_lawful}
use Rattle.tables.specs.Storage.{column_of}
use Rattle.tables.specs.Words.{all_of}

pub counted-on : {X : Type 0} (f g : ℕ → X) → ((k : ℕ) → f (k + 1) ≡ g k) → (n a : ℕ) → map f (range_with_len (a + 1) n) ≡ map g (range_with_len a n)
counted-on f g h zero a = refl
counted-on f g h (suc n) a = ap₂ (λ x xs. x ∷ xs) (h a) (counted-on f g h n (a + 1))

-- the entries of a column after the first
pub column_rest : {C : Type 0} (es : List (Entry C)) (n j : ℕ) → map (λ i. get_or es (24 * i + j) Any) (range_with_len 1 n) ≡ column_of (drop 24 es) n j
column_rest es n j =
    let step : (k : ℕ) → get_or es (24 * (k + 1) + j) Any ≡ get_or (drop 24 es) (24 * k + j) Any
    = λ k. let q : 24 * (k + 1) + j ≡ 24 + (24 * k + j) = omega arith in ap (λ i. get_or es i Any) q ∙ sym (get_or-drop 24 es (24 * k + j) Any) in
    counted-on (λ k. get_or es (24 * k + j) Any) (λ k. get_or (drop 24 es) (24 * k + j) Any) step n 0

no_items : {X : Type 0} (xs : List X) → 0 ≡ length xs → xs ≡ []
no_items [] e = refl
no_items (x ∷ xs) e = absurd (omega arith)

-- the entries of a column are lawful where each is, with its row
pub lawful-by-row : {V C : Type 0} (m : Meaning V C) (qs : List (Quantity V)) (ws : List Row) (xs : List (Entry C)) → length ws ≡ length xs
    → all_of (λ p. entry_lawful m qs p.0 p.1) (zip ws xs) ≡ entries_lawful m qs ws xs
lawful-by-row m qs [] xs e = ap (entries_lawful m qs []) (sym (no_items xs e))
lawful-by-row m qs (w ∷ ws) [] e = absurd (omega arith)
lawful-by-row m qs (w ∷ ws) (x ∷ xs) e = ap (λ b. entry_lawful m qs w x && b) (lawful-by-row m qs ws xs (omega arith))
