-- A line that was read, with its calls. Assumes nothing.
use Rattle.std.proofs.Common.{◌≡◌, IsErrAnd, MatchResult, ℕ, zero, suc, Bool, true, false, cond, leb, List, [], ◌∷◌, length, take, Ok, Err, Result, sym, refl, ap, ◌∙◌, ap₂, arith}
use Rattle.items.specs.declared.Counts.{Counts}
use Rattle.results.specs.declared.figure.Figure.{Figure}
use Rattle.page_faults.specs.declared.LineFault.{LineFault}
use Rattle.text.specs.Forms.{onward, formed, rest, rest_at}
use Rattle.text.specs.Lines.{Line, placed, in_row, entries, Kept, result, column, results, KeptColumn}
use Rattle.text.specs.declared.types.Placed.{Placed}
use Rattle.pages.specs.Reads.{PageLists, Asked, calls_of, make_all}
use Rattle.calling.specs.Goes.{follows}
use Rattle.calling.specs.Goes.{line_goes}

-- what was read, where a refusal would have been told by another
pub said-is : {X E : Type 0} (o : Result X ℕ) (r : Result X E) (post : ℕ → E → Type 0) (said : X) → MatchResult o (λ x. r ≡ Ok x) (λ e. IsErrAnd r (post e)) → r ≡ Ok said → Ok said ≡ o
said-is (Ok x) r post said c e = let i : said ≡ x = cc in ap Ok i
said-is (Err b) (Ok x) post said c e = absurd c
said-is (Err b) (Err f) post said c e = let z : ◌≡◌ {A = ℕ} 0 1 = cc in absurd (omega arith)

-- a line that was read goes as its calls go
pub line-goes : {X : Type 0} (x : Result X ℕ) (said : X) (line : X → Line) (ks : List Asked) (n n' : Counts) (l l' : PageLists) (r : Result (Unit {0}) LineFault) → Ok said ≡ x
    → calls_of n (line said) ≡ ks → make_all ks n l ≡ follows r n' l' [] → line_goes (onward x (λ s. Ok (line s))) n l ≡ follows r n' l' []
line-goes x said line ks n n' l l' r e k went = ap (λ x. line_goes (onward x (λ s. Ok (line s))) n l) (sym e) ∙ ap (λ ks. make_all ks n l) k ∙ went

-- so many entries are read as there are rows
with-one : (p : Result Placed ℕ) (m : ℕ) (next : Result (List Placed) ℕ) → ((es : List Placed) → next ≡ Ok es → length es ≡ m) → (es : List Placed)
    → onward p (λ e. onward next (λ es. Ok (e ∷ es))) ≡ Ok es → length es ≡ suc m
with-one (Ok p) m (Ok ds) h es e = let q : p ∷ ds ≡ es = cc in sym (ap length q) ∙ ap suc (h ds refl)
with-one (Ok p) m (Err b) h es e = let z : ◌≡◌ {A = ℕ} 0 1 = cc in absurd (omega arith)
with-one (Err b) m next h es e = let z : ◌≡◌ {A = ℕ} 0 1 = cc in absurd (omega arith)

row-length : (n at : ℕ) (fs : List (List ℕ)) (es : List Placed) → in_row n at fs ≡ Ok es → length es ≡ n
row-length zero at [] es e = let q : [] ≡ es = cc in sym (ap length q)
row-length zero at (f ∷ fs) es e = let z : ◌≡◌ {A = ℕ} 0 1 = cc in absurd (omega arith)
row-length (suc n) at fs es e = with-one (placed at fs) n (in_row n (rest_at at fs) (rest fs)) (row-length n (rest_at at fs) (rest fs)) es e

within : (b : Bool) (n : ℕ) (x : Result (List Placed) ℕ) → ((es : List Placed) → x ≡ Ok es → length es ≡ n) → (es : List Placed) → cond b x (Err 1) ≡ Ok es → length es ≡ n
within true n x h es e = h es e
within false n x h es e = let z : ◌≡◌ {A = ℕ} 0 1 = cc in absurd (omega arith)

entries-length : (n at : ℕ) (fs : List (List ℕ)) (es : List Placed) → entries n at fs ≡ Ok es → length es ≡ n
entries-length n at fs es e = within (leb n 16) n (in_row n at fs) (row-length n at fs) es e

kept-all : (n : ℕ) (x : Result (List Placed) ℕ) (out : List Placed) → ((es : List Placed) → x ≡ Ok es → length es ≡ n) → Ok tt ≡ formed x → Kept x out → Ok (take n out) ≡ x
kept-all n (Ok es) out h e k = ap Ok (ap (λ m. take m out) (sym (h es refl)) ∙ k)
kept-all n (Err b) out h e k = let z : ◌≡◌ {A = ℕ} 0 1 = cc in absurd (omega arith)

-- the entries of a never that was read stand at the front of the places
pub never-said : (n at : ℕ) (fs : List (List ℕ)) (out : List Placed) → Ok tt ≡ formed (entries n at fs) → Kept (entries n at fs) out → Ok (take n out) ≡ entries n at fs
never-said n at fs out e k = kept-all n (entries n at fs) out (entries-length n at fs) e k

-- a result and entries, where both are read
abbrev with : Result Figure ℕ → Result (List Placed) ℕ → Result (Figure × List Placed) ℕ
with x es = onward x (λ x. onward es (λ es. Ok (x, es)))

column-kept : (n : ℕ) (x : Result Figure ℕ) (es : Result (List Placed) ℕ) (out : List Placed) (f : Figure) → ((ps : List Placed) → es ≡ Ok ps → length ps ≡ n)
    → Ok f ≡ results (with x es) → KeptColumn (with x es) out → Ok (f, take n out) ≡ with x es
column-kept n (Ok x) (Ok es) out f h e k = let q : f ≡ x = cc in ap₂ (λ x es. Ok (x, es)) q (ap (λ m. take m out) (sym (h es refl)) ∙ k)
column-kept n (Ok x) (Err b) out f h e k = let z : ◌≡◌ {A = ℕ} 0 1 = cc in absurd (omega arith)
column-kept n (Err b) es out f h e k = let z : ◌≡◌ {A = ℕ} 0 1 = cc in absurd (omega arith)

-- and so do those of a column
pub column-said : (n at : ℕ) (fs : List (List ℕ)) (f : Figure) (out : List Placed) → Ok f ≡ results (column n at fs) → KeptColumn (column n at fs) out → Ok (f, take n out) ≡ column n at fs
column-said n at fs f out e k = column-kept n (result at fs) (entries n (rest_at at fs) (rest fs)) out f (entries-length n (rest_at at fs) (rest fs)) e k
