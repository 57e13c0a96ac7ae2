-- A text parted at a byte, step by step.
use Rattle.std.proofs.Common.{◌≡◌, ℕ, suc, ◌+◌, ◌-◌, ◌<◌, ◌≤◌, true, false, cond, eqb, leb, List, [], ◌∷◌, length, get_or, take, drop, sym, refl, ap, ◌∙◌, ⊎_elim, arith, length-drop, length-take}
use lib.Dec.{leb-suc-suc}
use Rattle.std.proofs.lemmas.List.{at_drop_more, at_drop_all, drop-drop}
use Rattle.std.proofs.lemmas.Bool.Decides.{nat_tests}
use Rattle.std.proofs.lemmas.Bool.{le-leb, lt-leb, eq-eqb, ne_eqb, cond-true, cond-false, eqb-true, cases_Bool}
use Rattle.std.specs.List.{AllByRecursion}
use Rattle.text.specs.Fields.{in_front, parted, followed, rejoined, up_to, parts_from, fields_from}

pub up_to-on : (sep : ℕ) (xs : List ℕ) (at : ℕ) → at < length xs → (get_or xs at 0 ≡ sep → ⊥) → up_to sep (drop at xs) ≡ suc (up_to sep (drop (at + 1) xs))
up_to-on sep xs at h ne = at_drop_more (up_to sep) xs at 0 h ∙ cond-false _ _ _ (ne_eqb _ _ ne)

pub up_to-here : (sep : ℕ) (xs : List ℕ) (at : ℕ) → at < length xs → get_or xs at 0 ≡ sep → up_to sep (drop at xs) ≡ 0
up_to-here sep xs at h e = at_drop_more (up_to sep) xs at 0 h ∙ cond-true _ _ _ (eq-eqb _ _ e)

pub up_to-end : (sep : ℕ) (xs : List ℕ) (at : ℕ) → length xs ≤ at → up_to sep (drop at xs) ≡ 0
up_to-end sep xs at h = at_drop_all (up_to sep) xs at h

pub up_to-le : (sep : ℕ) (xs : List ℕ) → up_to sep xs ≤ length xs
up_to-le sep [] = omega arith
up_to-le sep (x ∷ xs) =
    elim (eqb x sep) as (λ b. cond b 0 (suc (up_to sep xs)) ≤ suc (length xs)) [ true ↦ omega arith | false ↦ omega (arith, up_to-le sep xs) ]

-- the first part reaches to the first separator, and the others come after it
pub parted-first : (sep : ℕ) (xs : List ℕ) → parted sep xs ≡ take (up_to sep xs) xs ∷ cond (leb (suc (up_to sep xs)) (length xs)) (parted sep (drop (suc (up_to sep xs)) xs)) []
parted-first sep [] = refl
parted-first sep (x ∷ xs) =
    elim (eqb x sep) as (λ b. cond b ([] ∷ parted sep xs) (in_front x (parted sep xs)) ≡ take (cond b 0 (suc (up_to sep xs))) (x ∷ xs) ∷ cond (leb (suc (cond b 0 (suc (up_to sep xs)))) (suc (length xs))) (parted sep (drop (suc (cond b 0 (suc (up_to sep xs)))) (x ∷ xs))) [])
    [ true ↦ sym (ap (λ t. [] ∷ cond t (parted sep xs) []) (le-leb 1 (suc (length xs)) (omega arith))) | false ↦ rw leb-suc-suc (ap (in_front x) (parted-first sep xs)) ]

pub parts_more : (sep : ℕ) (line : List ℕ) (at to : ℕ) → at ≤ length line → to ≡ at + up_to sep (drop at line) → parts_from sep line at ≡ take (to - at) (drop at line) ∷ parts_from sep line (to + 1)
parts_more sep line at to h e =
    let u = up_to sep (drop at line) in
    let a : u ≡ to - at = omega arith in
    let l = length-drop at line in
    let b : leb (suc u) (length (drop at line)) ≡ leb (to + 1) (length line) = grind (arith, nat_tests) in
    let k : at + suc u ≡ to + 1 = omega arith in
    let d : drop (suc u) (drop at line) ≡ drop (to + 1) line = drop-drop (suc u) at line ∙ ap (λ i. drop i line) k in
    cond-true _ _ _ (le-leb at (length line) h) ∙ parted-first sep (drop at line) ∙ (cc)

pub parts_none : (sep : ℕ) (line : List ℕ) (at : ℕ) → length line < at → parts_from sep line at ≡ []
parts_none sep line at h = cond-false _ _ _ (lt-leb at (length line) h)

pub fields-more : (line : List ℕ) (at to : ℕ) → at ≤ length line → to ≡ at + up_to 32 (drop at line) → fields_from line at ≡ take (to - at) (drop at line) ∷ fields_from line (to + 1)
fields-more = parts_more 32

pub length-field : (line : List ℕ) (at to : ℕ) → at ≤ length line → to ≡ at + up_to 32 (drop at line) → to ≡ at + length (take (to - at) (drop at line))
length-field line at to h e = simp (length-take, length-drop) (omega (arith, up_to-le 32 (drop at line), length-drop at line))

-- parts put together, and a whole taken apart
followed-parted : (sep : ℕ) (bs : List ℕ) → followed sep (parted sep bs) ≡ sep ∷ rejoined sep (parted sep bs)
followed-parted sep bs = rw (parted-first sep bs) refl

rejoined-in_front : (sep b : ℕ) (ps : List (List ℕ)) → rejoined sep (in_front b ps) ≡ b ∷ rejoined sep ps
rejoined-in_front sep b [] = refl
rejoined-in_front sep b (p ∷ ps) = refl

pub whole : (sep : ℕ) (bs : List ℕ) → rejoined sep (parted sep bs) ≡ bs
whole sep [] = refl
whole sep (b ∷ bs) =
    ⊎_elim (λ (t : eqb b sep ≡ true).
    ap (rejoined sep) (cond-true _ _ _ t) ∙ followed-parted sep bs ∙ ap (λ l. sep ∷ l) (whole sep bs) ∙ ap (λ x. x ∷ bs) (sym (eqb-true b sep t)))
    (λ (f : eqb b sep ≡ false).
    ap (rejoined sep) (cond-false _ _ _ f) ∙ rejoined-in_front sep b (parted sep bs) ∙ ap (λ l. b ∷ l) (whole sep bs)) (cases_Bool (eqb b sep))

-- no byte of a part is the separator
abbrev pub Free : ℕ → List ℕ → Type 0
Free sep f = AllByRecursion (λ b. b ≡ sep → ⊥) f

pub apart-free : (sep : ℕ) (f : List ℕ) (fs : List (List ℕ)) → Free sep f → AllByRecursion (Free sep) fs → parted sep (rejoined sep (f ∷ fs)) ≡ f ∷ fs
apart-free sep [] [] a rs = refl
apart-free sep [] (g ∷ gs) a rs = cond-true _ _ _ (eq-eqb sep sep refl) ∙ ap (λ l. [] ∷ l) (apart-free sep g gs rs.0 rs.1)
apart-free sep (b ∷ f) fs a rs = cond-false _ _ _ (ne_eqb b sep a.0) ∙ ap (in_front b) (apart-free sep f fs a.1 rs)

pub free-low : (sep : ℕ) (f : List ℕ) → sep ≤ 32 → AllByRecursion (λ b. 32 < b) f → Free sep f
free-low sep [] low a = tt
free-low sep (b ∷ f) low a = let h : 32 < b = a.0 in ((λ e. omega arith), free-low sep f low a.1)

frees-low : (sep : ℕ) (fs : List (List ℕ)) → sep ≤ 32 → AllByRecursion (λ f. AllByRecursion (λ b. 32 < b) f) fs → AllByRecursion (Free sep) fs
frees-low sep [] low a = tt
frees-low sep (f ∷ fs) low a = (free-low sep f low a.0, frees-low sep fs low a.1)

pub apart : (sep : ℕ) (f : List ℕ) (fs : List (List ℕ)) → sep ≤ 32 → AllByRecursion (λ b. 32 < b) f → AllByRecursion (λ f. AllByRecursion (λ b. 32 < b) f) fs → parted sep (rejoined sep (f ∷ fs)) ≡ f ∷ fs
apart sep f fs low a rs = apart-free sep f fs (free-low sep f low a) (frees-low sep fs low rs)
