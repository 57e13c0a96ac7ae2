-- The lines of a text put together, and the parts of a page.
use Rattle.std.proofs.Common.{◌≡◌, ℕ, suc, ◌+◌, ◌-◌, ◌<◌, ◌≤◌, Bool, true, false, cond, ◌&&◌, ◌||◌, eqb, leb, List, [], ◌∷◌, ◌++◌, length, get_or, take, drop, Ok, Err, codes, Result, sym, refl, ap, ◌∙◌, subst, ⊎_elim, arith}
use Rattle.std.proofs.lemmas.List.{length-take-le, length-append, take_rest, take_at, drop_at, take-append-drop, get_or_append_left, get_or-take, nil_from_length}
use Rattle.std.proofs.lemmas.Bool.{cond-true, cond-false, cases_Bool, cases_lt, eqb-true, eq-eqb, ne_eqb, le-leb, leb-true, and_from, and_parts, or_left, or_right, or_cases}
use Rattle.std.proofs.lemmas.Slice.Eq.{bytes_eq-Decides}
use Rattle.std.specs.Str.{bytes_eq}
use Rattle.std.specs.List.{flat_map, between, AllByRecursion}
use Rattle.text.specs.Fields.{in_front}
use Rattle.text.specs.Lines.{Line}
use Rattle.text.specs.Pages.{lined, closed, lines_of, page_of, too_long, not_closed}
use Rattle.text.specs.declared.types.Section.TheVariants.{Quantities}
use Rattle.text.proofs.Parts.{Free}
use Rattle.text.proofs.Spelling.{alike}
use Rattle.text.proofs.LineSteps.{lined-first}

-- a text that is empty or ends in byte 10
abbrev pub Ended : List ℕ → Type 0
Ended [] = Unit {0}
Ended (b ∷ []) = b ≡ 10
Ended (b ∷ (x ∷ xs)) = Ended (x ∷ xs)

ended-tail : (b : ℕ) (bs : List ℕ) → Ended (b ∷ bs) → Ended bs
ended-tail b [] h = tt
ended-tail b (x ∷ xs) h = h

joined-in_front : (b : ℕ) (l : List ℕ) (ls : List (List ℕ)) → flat_map (λ l. l ++ (10 ∷ [])) (in_front b (l ∷ ls)) ≡ b ∷ flat_map (λ l. l ++ (10 ∷ [])) (l ∷ ls)
joined-in_front b l ls = refl

pub lined-same : (bs : List ℕ) → Ended bs → flat_map (λ l. l ++ (10 ∷ [])) (lined bs) ≡ bs
lined-same [] h = refl
lined-same (b ∷ []) h = ap (λ v. flat_map (λ l. l ++ (10 ∷ [])) (lined (v ∷ []))) h ∙ ap (λ v. v ∷ []) (sym h)
lined-same (b ∷ (x ∷ xs)) h =
    let r = lined-same (x ∷ xs) h in
    ⊎_elim (λ (t : eqb b 10 ≡ true).
    ap (flat_map (λ l. l ++ (10 ∷ []))) (cond-true _ _ _ t) ∙ ap (λ v. 10 ∷ v) r ∙ ap (λ v. v ∷ (x ∷ xs)) (sym (eqb-true b 10 t)))
    (λ (f : eqb b 10 ≡ false).
    let c = lined-first x xs in
    ap (flat_map (λ l. l ++ (10 ∷ []))) (cond-false _ _ _ f) ∙ ap (λ v. flat_map (λ l. l ++ (10 ∷ [])) (in_front b v)) c
    ∙ ap (λ v. b ∷ flat_map (λ l. l ++ (10 ∷ [])) v) (sym c) ∙ ap (λ v. b ∷ v) r) (cases_Bool (eqb b 10))

lined-line : (l rest : List ℕ) → Free 10 l → lined ((l ++ (10 ∷ [])) ++ rest) ≡ l ∷ lined rest
lined-line [] rest a = refl
lined-line (b ∷ l) rest a = cond-false _ _ _ (ne_eqb b 10 a.0) ∙ ap (in_front b) (lined-line l rest a.1)

pub lined-back : (ls : List (List ℕ)) → AllByRecursion (Free 10) ls → lined (flat_map (λ l. l ++ (10 ∷ [])) ls) ≡ ls
lined-back [] a = refl
lined-back (l ∷ ls) a = lined-line l (flat_map (λ l. l ++ (10 ∷ [])) ls) a.0 ∙ ap (λ r. l ∷ r) (lined-back ls a.1)

ended-join : (xs ys : List ℕ) → Ended ys → Ended ((xs ++ (10 ∷ [])) ++ ys)
ended-join [] [] h = refl
ended-join [] (y ∷ ys) h = h
ended-join (x ∷ []) ys h = ended-join [] ys h
ended-join (x ∷ (z ∷ zs)) ys h = ended-join (z ∷ zs) ys h

pub ended-joined : (ls : List (List ℕ)) → Ended (flat_map (λ l. l ++ (10 ∷ [])) ls)
ended-joined [] = tt
ended-joined (l ∷ ls) = ended-join l (flat_map (λ l. l ++ (10 ∷ [])) ls) (ended-joined ls)

-- the byte at the end
ended-last : (bs : List ℕ) → 0 < length bs → Ended bs → get_or bs (length bs - 1) 0 ≡ 10
ended-last [] h e = absurd (omega arith)
ended-last (b ∷ []) h e = e
ended-last (b ∷ (x ∷ xs)) h e =
    let k : suc (suc (length xs)) - 1 ≡ suc (suc (length xs) - 1) = omega arith in
    ap (λ i. get_or (b ∷ (x ∷ xs)) i 0) k ∙ ended-last (x ∷ xs) (omega arith) e

last-ended : (bs : List ℕ) → get_or bs (length bs - 1) 0 ≡ 10 → Ended bs
last-ended [] e = tt
last-ended (b ∷ []) e = e
last-ended (b ∷ (x ∷ xs)) e =
    let k : suc (suc (length xs)) - 1 ≡ suc (suc (length xs) - 1) = omega arith in
    last-ended (x ∷ xs) (sym (ap (λ i. get_or (b ∷ (x ∷ xs)) i 0) k) ∙ e)

abbrev stop : List ℕ
stop = codes "end\n"

pub page-opens : (body : List ℕ) → Ended body → length (body ++ stop) ≤ 65536 → page_of (body ++ stop) ≡ lines_of Quantities 0 1 (lined body)
page-opens body e h =
    let page = body ++ stop in let n = length body in
    let l : length page ≡ n + 4 = length-append body stop in
    let k : length page - 4 ≡ n = omega arith in
    let z : n - 0 ≡ n = omega arith in
    let last : between (length page - 4) (length page) page ≡ stop = ap (λ i. take (length page - i) (drop i page)) k ∙ take_rest page n ∙ drop_at body stop n refl in
    let front : between 0 (length page - 4) page ≡ body = ap (λ i. between 0 i page) k ∙ ap (λ i. take i page) z ∙ take_at body stop n refl in
    let five : (eqb (length page) 4 || eqb (get_or page (length page - 5) 0) 10) ≡ true =
    ⊎_elim (λ (some : 0 < n).
    let j : length page - 5 ≡ n - 1 = omega arith in
    let g : get_or page (length page - 5) 0 ≡ 10 = ap (λ i. get_or page i 0) j ∙ get_or_append_left body stop 0 (n - 1) (omega arith) ∙ ended-last body some e in
    or_right (eqb (length page) 4) _ (eq-eqb _ _ g))
    (λ (none : n ≤ 0). or_left (eqb (length page) 4) _ (eq-eqb (length page) 4 (omega arith))) (cases_lt 0 n) in
    cond-true _ _ _ (le-leb (length page) 65536 h)
    ∙ cond-true _ _ _ (and_from _ _ (le-leb 4 (length page) (omega arith)) (and_from _ _ (sym (alike _ _ last)) five))
    ∙ ap (λ b. lines_of Quantities 0 1 (lined b)) front

-- what is right under a test
pub under-err : {X E : Type 0} (t : Bool) (r : Result X E) (d : E) (x : X) → cond t r (Err d) ≡ Ok x → (t ≡ true) × (r ≡ Ok x)
under-err true r d x e = (refl, e)
under-err false r d x e = let z : ◌≡◌ {A = ℕ} 0 1 = cc in absurd (omega arith)

pub page-parts : (page : List ℕ) (xs : List Line) → page_of page ≡ Ok xs → (body : List ℕ) × Ended body × (body ++ stop ≡ page) × (lines_of Quantities 0 1 (lined body) ≡ Ok xs)
page-parts page xs e =
    let a = under-err (leb (length page) 65536) _ too_long xs e in
    let b = under-err (closed page) _ not_closed xs a.1 in
    let p : (leb 4 (length page) ≡ true) × ((bytes_eq (between (length page - 4) (length page) page) stop && (eqb (length page) 4 || eqb (get_or page (length page - 5) 0) 10)) ≡ true) = and_parts _ _ b.0 in
    let q : (bytes_eq (between (length page - 4) (length page) page) stop ≡ true) × ((eqb (length page) 4 || eqb (get_or page (length page - 5) 0) 10) ≡ true) = and_parts _ _ p.1 in
    let four : 4 ≤ length page = leb-true _ _ p.0 in
    let m = length page - 4 in
    let body = between 0 m page in
    let z : m - 0 ≡ m = omega arith in
    let t : body ≡ take m page = ap (λ i. take i page) z in
    let last : drop m page ≡ stop = sym (take_rest page m) ∙ (bytes_eq-Decides _ _).0 q.0 in
    let len : length (take m page) ≡ m = length-take-le m page (omega arith) in
    let ends : Ended (take m page) =
    ⊎_elim (λ (w : eqb (length page) 4 ≡ true). let n : length page ≡ 4 = eqb-true _ _ w in let o : m ≡ 0 = omega arith in subst Ended (sym (nil_from_length (take m page) (len ∙ o))) tt)
    (λ (w : eqb (get_or page (length page - 5) 0) 10 ≡ true).
    ⊎_elim (λ (some : 0 < m).
    let j : length (take m page) - 1 ≡ length page - 5 = omega arith in
    last-ended (take m page) (get_or-take m page (length (take m page) - 1) 0 (omega arith) ∙ ap (λ i. get_or page i 0) j ∙ eqb-true _ _ w))
    (λ (none : m ≤ 0). let o : m ≡ 0 = omega arith in subst Ended (sym (nil_from_length (take m page) (len ∙ o))) tt) (cases_lt 0 m))
    (or_cases (eqb (length page) 4) (eqb (get_or page (length page - 5) 0) 10) q.1) in
    (body, subst Ended (sym t) ends, ap (λ l. l ++ stop) t ∙ ap (λ l. take m page ++ l) (sym last) ∙ take-append-drop m page, b.1)
