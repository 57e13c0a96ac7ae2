-- The entries of a column, gathered one by one. Assumes nothing.
use Rattle.std.proofs.Common.{◌≡◌, ℕ, ◌+◌, ◌*◌, ◌<◌, List, [], ◌∷◌, ◌++◌, length, get_or, take, set, sym, ap, ◌∙◌, arith}
use Rattle.std.proofs.lemmas.List.FromFn.{map-range_with_len_more}
use Rattle.std.proofs.lemmas.List.{take_more_set}
use Rattle.items.specs.declared.Entry.{Entry}
use Rattle.items.specs.declared.Entry.TheVariants.{Any}
use Rattle.tables.specs.Storage.{column_of}

-- one entry more
pub gathered-more : {C : Type 0} (all es : List (Entry C)) (i j : ℕ) → i < length all → take i all ≡ column_of es i j → take (i + 1) (set all i (get_or es (24 * i + j) Any)) ≡ column_of es (i + 1) j
gathered-more all es i j l h =
    take_more_set all i (get_or es (24 * i + j) Any) l ∙ ap (λ xs. xs ++ (get_or es (24 * i + j) Any ∷ [])) h
    ∙ sym (map-range_with_len_more (λ k. get_or es (24 * k + j) Any) 0 i i (omega arith))
