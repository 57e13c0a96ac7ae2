-- Lines of a page and entries of a line, one by one.
use Rattle.std.proofs.Common.{◌≡◌, ℕ, suc, ◌+◌, ◌-◌, ◌<◌, ◌≤◌, true, false, cond, eqb, List, [], ◌∷◌, ◌++◌, length, get_or, take, drop, Ok, Err, Result, sym, refl, ap, ◌∙◌, subst, append_assoc, append-nil, arith}
use Rattle.std.proofs.lemmas.List.{drop-drop, drop_more, length-take-le}
use Rattle.std.proofs.lemmas.Bool.{cond-true, le-leb}
use Rattle.text.specs.Fields.{in_front, up_to}
use Rattle.text.specs.Forms.{onward, none, formed, rest, rest_at}
use Rattle.text.specs.Lines.{placed, in_row, entries, Kept}
use Rattle.text.specs.Pages.{lined}
use Rattle.text.specs.declared.types.Placed.{Placed}

pub lined-first : (b : ℕ) (bs : List ℕ) → lined (b ∷ bs) ≡ take (up_to 10 (b ∷ bs)) (b ∷ bs) ∷ lined (drop (suc (up_to 10 (b ∷ bs))) (b ∷ bs))
lined-first b [] = elim (eqb b 10) as (λ t. cond t ([] ∷ []) ((b ∷ []) ∷ []) ≡ take (cond t 0 1) (b ∷ []) ∷ lined (drop (suc (cond t 0 1)) (b ∷ []))) [ true ↦ refl | false ↦ refl ]
lined-first b (x ∷ xs) =
    elim (eqb b 10) as (λ t. cond t ([] ∷ lined (x ∷ xs)) (in_front b (lined (x ∷ xs))) ≡ take (cond t 0 (suc (up_to 10 (x ∷ xs)))) (b ∷ (x ∷ xs)) ∷ lined (drop (suc (cond t 0 (suc (up_to 10 (x ∷ xs))))) (b ∷ (x ∷ xs))))
    [ true ↦ refl | false ↦ ap (in_front b) (lined-first x xs) ]

pub lined-more : (page : List ℕ) (at to : ℕ) → at < length page → to ≡ at + up_to 10 (drop at page) → lined (drop at page) ≡ take (to - at) (drop at page) ∷ lined (drop (to + 1) page)
lined-more page at to h e =
    let u = up_to 10 (drop at page) in
    let c : drop at page ≡ get_or page at 0 ∷ drop (at + 1) page = drop_more page at 0 h in
    let f : lined (drop at page) ≡ take u (drop at page) ∷ lined (drop (suc u) (drop at page)) =
    subst (λ l. lined l ≡ take (up_to 10 l) l ∷ lined (drop (suc (up_to 10 l)) l)) (sym c) (lined-first (get_or page at 0) (drop (at + 1) page)) in
    let a : u ≡ to - at = omega arith in
    let k : at + suc u ≡ to + 1 = omega arith in
    let d : drop (suc u) (drop at page) ≡ drop (to + 1) page = drop-drop (suc u) at page ∙ ap (λ i. drop i page) k in
    f ∙ ap (λ n. take n (drop at page) ∷ lined (drop (suc u) (drop at page))) a ∙ ap (λ l. take (to - at) (drop at page) ∷ lined l) d

-- entries after those that are read
abbrev pub following : List Placed → Result (List Placed) ℕ → Result (List Placed) ℕ
following ps r = onward r (λ es. Ok (ps ++ es))

following-two : (ps : List Placed) (p : Placed) (r : Result (List Placed) ℕ) → following ps (onward r (λ es. Ok (p ∷ es))) ≡ following (ps ++ (p ∷ [])) r
following-two ps p (Ok es) = ap Ok (sym (append_assoc ps (p ∷ []) es))
following-two ps p (Err b) = refl

-- one more entry is read
pub entries-more : (ps : List Placed) (n m at : ℕ) (fs : List (List ℕ)) (p : Placed) → n ≡ suc m → Ok p ≡ placed at fs → following ps (in_row n at fs) ≡ following (ps ++ (p ∷ [])) (in_row m (rest_at at fs) (rest fs))
entries-more ps n m at fs p k e =
    ap (λ i. following ps (in_row i at fs)) k
    ∙ ap (λ r. following ps (onward r (λ y. onward (in_row m (rest_at at fs) (rest fs)) (λ es. Ok (y ∷ es))))) (sym e)
    ∙ following-two ps p (in_row m (rest_at at fs) (rest fs))

-- the next entry is wrong or missing
pub entries-stop : (ps : List Placed) (n m at : ℕ) (fs : List (List ℕ)) (b : ℕ) → n ≡ suc m → Err b ≡ placed at fs → following ps (in_row n at fs) ≡ Err b
entries-stop ps n m at fs b k e =
    ap (λ i. following ps (in_row i at fs)) k
    ∙ ap (λ r. following ps (onward r (λ y. onward (in_row m (rest_at at fs) (rest fs)) (λ es. Ok (y ∷ es))))) (sym e)

module _ (n at : ℕ) (fs : List (List ℕ)) (few : n ≤ 16) where
  within : entries n at fs ≡ in_row n at fs
  within = cond-true _ _ _ (le-leb n 16 few)

  -- what is told and kept where an entry is wrong or missing
  pub entries-wrong : (b : ℕ) (out : List Placed) → in_row n at fs ≡ Err b → (Err b ≡ formed (entries n at fs)) × Kept (entries n at fs) out
  entries-wrong b out e =
      let k : Err b ≡ entries n at fs = sym (within ∙ e) in
      (ap formed k, subst (λ r. Kept r out) k tt)

  -- and where all entries are read
  pub entries-all : (out : List Placed) (i to : ℕ) (gs : List (List ℕ)) → i ≤ length out → following (take i out) (none [] to gs) ≡ in_row n at fs → (none tt to gs ≡ formed (entries n at fs)) × Kept (entries n at fs) out
  entries-all out i to [] near e =
      let k : Ok (take i out) ≡ entries n at fs = ap Ok (sym (append-nil (take i out))) ∙ e ∙ sym within in
      (ap formed k, subst (λ r. Kept r out) k (ap (λ m. take m out) (length-take-le i out near)))
  entries-all out i to (g ∷ gs) near e = entries-wrong to out (sym e)
