-- Lines and pages: what is written reads back, and what was read is written back.
use Rattle.std.proofs.Common.{◌≡◌, ℕ, zero, suc, ◌+◌, ◌<◌, ◌≤◌, true, ◌&&◌, ltb, leb, List, [], ◌∷◌, ◌++◌, map, length, Some, None, Ok, Err, codes, Option, Result, sym, refl, ap, ◌∙◌, subst, arith}
use Rattle.std.specs.Fmt.{signed_decimal}
use Rattle.std.specs.List.{flat_map, AllByRecursion}
use Rattle.std.proofs.ByRecursion.{All-append}
use Rattle.std.proofs.lemmas.Bool.{cond-true, and_from, and_parts, le-leb, leb-true}
use Rattle.house.specs.House.{Value, Cell}
use Rattle.items.specs.declared.Scope.{Scope}
use Rattle.items.specs.declared.Scope.TheVariants.{Flight as FlightS, Pair as PairS}
use Rattle.items.specs.declared.Quantity.{Quantity}
use Rattle.items.specs.declared.Row.{Row}
use Rattle.items.specs.declared.Entry.{Entry}
use Rattle.results.specs.declared.figure.Figure.{Figure}
use Rattle.text.specs.Fields.{parted, rejoined, followed}
use Rattle.text.specs.Forms.{Form, Faithful, first, none, onward, or_at, rest, rest_at}
use Rattle.text.specs.Words.{first_word, allowed, section_of, rank, place}
use Rattle.text.specs.Lines.{quantity, row, result, placed, in_row, entries, column, default, Line, quantity_line, row_line, column_line, never_line, default_line, line_of, rows_after}
use Rattle.text.specs.Pages.{lined, Refused, in_section, word_at, in_line, line_at, lines_of, page_of}
use Rattle.text.specs.Texts.{seven_digits, entry_right, entry_text, kind_of, quantity_fields, quantity_right, row_fields, row_right, Said, say_quantity, say_row, say_column, say_never, say_default, unplaced, said, scope_word, word_text, word_of, fields_of, line_body, placed_from, located_at, located, LineRight, Ordered, page_text}
use Rattle.text.specs.Promises.{number_form, measure_form, mode_form, kind_form, value_form, entry_form, Text-faithful}
use Rattle.text.specs.declared.types.Word.{Word}
use Rattle.text.specs.declared.types.Word.TheVariants.{Flight, Pair as PairW, Row as RowW, Column, Never, Default, End}
use Rattle.text.specs.declared.types.Section.{Section}
use Rattle.text.specs.declared.types.Section.TheVariants.{Quantities}
use Rattle.text.specs.declared.types.QuantityLine.{QuantityLine}
use Rattle.text.specs.declared.types.RowLine.{RowLine}
use Rattle.text.specs.declared.types.Placed.{Placed}
use Rattle.text.proofs.Parts.{whole, apart, Free, free-low}
use Rattle.text.proofs.FieldTexts.{some-under, numbers, measures, times, modes-faithful, kinds-faithful, words-faithful, values, kind-of}
use Rattle.text.proofs.Lengths.{lines-short}
use Rattle.text.proofs.CellTexts.{entries-faithful}
use Rattle.text.proofs.PageTexts.{Ended, under-err, lined-back, lined-same, ended-joined, page-opens, page-parts}

-- what was right on the way
pub ok_same : {X E : Type 0} (x y : X) → ◌≡◌ {A = Result X E} (Ok x) (Ok y) → x ≡ y
ok_same x y e = cc

or_at-ok : {X : Type 0} (at : ℕ) (o : Option X) (x : X) → or_at at o ≡ Ok x → o ≡ Some x
or_at-ok at (Some y) x e = cc
or_at-ok at None x e = let q : ◌≡◌ {A = ℕ} 0 1 = cc in absurd (omega arith)

pub onward-ok : {X Y E : Type 0} (r : Result X E) (next : X → Result Y E) (y : Y) → onward r next ≡ Ok y → (x : X) × (r ≡ Ok x) × (next x ≡ Ok y)
onward-ok (Ok x) next y e = (x, refl, e)
onward-ok (Err at) next y e = let q : ◌≡◌ {A = ℕ} 0 1 = cc in absurd (omega arith)

none-ok : {X : Type 0} (x y : X) (at : ℕ) (fs : List (List ℕ)) → none x at fs ≡ Ok y → (fs ≡ []) × (x ≡ y)
none-ok x y at [] e = (refl, cc)
none-ok x y at (f ∷ fs) e = let q : ◌≡◌ {A = ℕ} 0 1 = cc in absurd (omega arith)

-- a right field, and what follows it
module _ {X : Type 0} {form : Form X} (law : Faithful form) where
  first_back : (x : X) (at : ℕ) (fs : List (List ℕ)) → form.right x ≡ true → first form.read at (form.text x ∷ fs) ≡ Ok x
  first_back x at fs r = ap (or_at at) (law.back x r)

  text-solid : (x : X) → form.right x ≡ true → AllByRecursion (λ b. 32 < b) (form.text x)
  text-solid x r = law.solid (form.text x) x (law.back x r)

  first-same : (at : ℕ) (fs : List (List ℕ)) (x : X) → first form.read at fs ≡ Ok x → (form.right x ≡ true) × (fs ≡ form.text x ∷ rest fs)
  first-same at [] x e = let q : ◌≡◌ {A = ℕ} 0 1 = cc in absurd (omega arith)
  first-same at (f ∷ fs) x e = let w = law.same f x (or_at-ok at (form.read f) x e) in (w.0, ap (λ l. l ∷ fs) (sym w.1))

-- rows
row_back : (r : Row) (at : ℕ) → row_right r ≡ true → row at (row_fields r) ≡ Ok (record { row = r; quantity_byte = at; mode_byte = rest_at at (row_fields r) })
row_back r at h = rw (first_back numbers, first_back modes-faithful) refl

row_same : (fs : List (List ℕ)) (l : RowLine) (at : ℕ) → row at fs ≡ Ok l → (row_right l.row ≡ true) × (row_fields l.row ≡ fs)
row_same fs l at e =
    let a = onward-ok (first number_form.read at fs) _ l e in
    let p = first-same numbers at fs a.0 a.1 in
    let b = onward-ok (first mode_form.read (rest_at at fs) (rest fs)) _ l a.2 in
    let q = first-same modes-faithful (rest_at at fs) (rest fs) b.0 b.1 in
    let c = none-ok (record { row = record { quantity = a.0; mode = b.0 }; quantity_byte = at; mode_byte = rest_at at fs }) l (rest_at (rest_at at fs) (rest fs)) (rest (rest fs)) b.2 in
    subst (λ (y : RowLine). (row_right y.row ≡ true) × (row_fields y.row ≡ fs)) c.1
    (p.0, sym (p.1 ∙ ap (λ l. number_form.text a.0 ∷ l) (q.1 ∙ ap (λ l. mode_form.text b.0 ∷ l) c.0)))

row-solid : (r : Row) → row_right r ≡ true → AllByRecursion (λ f. AllByRecursion (λ b. 32 < b) f) (row_fields r)
row-solid r h = (text-solid numbers r.quantity h, (text-solid modes-faithful r.mode refl, tt))

-- quantities
quantity-back : (q : Quantity Value) (at : ℕ) → quantity_right q ≡ true → quantity q.scope at (quantity_fields q) ≡ Ok (record { quantity = q; least_byte = rest_at at (quantity_fields q) })
quantity-back q at h =
    let k = kind_of q.least in
    let p = and_parts ((value_form k).right q.least) ((value_form k).right q.greatest) h in
    let lo = p.0 in let hi = p.1 in
    rw (first_back kinds-faithful k _ _ refl, first_back (values k) q.least _ _ lo, first_back (values k) q.greatest _ _ hi) refl

abbrev OfQuantity : Scope → List (List ℕ) → QuantityLine → Type 0
OfQuantity s fs l = (l.quantity.scope ≡ s) × (quantity_right l.quantity ≡ true) × (quantity_fields l.quantity ≡ fs)

quantity-same : (s : Scope) (fs : List (List ℕ)) (l : QuantityLine) (at : ℕ) → quantity s at fs ≡ Ok l → OfQuantity s fs l
quantity-same s fs l at e =
    let a = onward-ok (first kind_form.read at fs) _ l e in
    let k = a.0 in
    let p = first-same kinds-faithful at fs k a.1 in
    let fs2 = rest fs in let at2 = rest_at at fs in
    let b = onward-ok (first (value_form k).read at2 fs2) _ l a.2 in
    let lo = b.0 in
    let q = first-same (values k) at2 fs2 lo b.1 in
    let fs3 = rest fs2 in let at3 = rest_at at2 fs2 in
    let c = onward-ok (first (value_form k).read at3 fs3) _ l b.2 in
    let hi = c.0 in
    let t = first-same (values k) at3 fs3 hi c.1 in
    let d = none-ok (record { quantity = record { scope = s; least = lo; greatest = hi }; least_byte = at2 }) l (rest_at at3 fs3) (rest fs3) c.2 in
    let is : k ≡ kind_of lo = sym (kind-of k lo q.0) in
    let right : quantity_right (record { scope = s; least = lo; greatest = hi }) ≡ true =
    subst (λ j. ((value_form j).right lo && (value_form j).right hi) ≡ true) is (and_from _ _ q.0 t.0) in
    let text : quantity_fields (record { scope = s; least = lo; greatest = hi }) ≡ fs =
    sym (p.1 ∙ ap (λ l. kind_form.text k ∷ l) (q.1 ∙ ap (λ l. (value_form k).text lo ∷ l) (t.1 ∙ ap (λ l. (value_form k).text hi ∷ l) d.0))
    ∙ ap (λ j. kind_form.text j ∷ ((value_form k).text lo ∷ ((value_form k).text hi ∷ []))) is) in
    subst (OfQuantity s fs) d.1 (refl, right, text)

quantity-solid : (q : Quantity Value) → quantity_right q ≡ true → AllByRecursion (λ f. AllByRecursion (λ b. 32 < b) f) (quantity_fields q)
quantity-solid q h =
    let k = kind_of q.least in
    let p = and_parts ((value_form k).right q.least) ((value_form k).right q.greatest) h in
    (text-solid kinds-faithful k refl, (text-solid (values k) q.least p.0, (text-solid (values k) q.greatest p.1, tt)))

-- results
result-back : (x : Figure) (at : ℕ) (fs : List (List ℕ)) → seven_digits x.value ≡ true → result at (signed_decimal x.value ∷ fs) ≡ Ok x
result-back x at fs r = ap (λ o. onward o (λ z. Ok (record { value = z }))) (first_back measures x.value at fs r)

result-same : (at : ℕ) (fs : List (List ℕ)) (x : Figure) → result at fs ≡ Ok x → (seven_digits x.value ≡ true) × (fs ≡ signed_decimal x.value ∷ rest fs)
result-same at fs x e =
    let a = onward-ok (first measure_form.read at fs) _ x e in
    let p = first-same measures at fs a.0 a.1 in
    subst (λ (y : Figure). (seven_digits y.value ≡ true) × (fs ≡ signed_decimal y.value ∷ rest fs)) (ok_same (record { value = a.0 }) x a.2) p

-- entries
placed-back : (e : Entry Cell) (at : ℕ) (fs : List (List ℕ)) → entry_right e ≡ true → placed at (entry_text e ∷ fs) ≡ Ok (record { entry = e; byte = at })
placed-back e at fs r = ap (λ o. onward o (λ e. Ok (record { entry = e; byte = at }))) (first_back entries-faithful e at fs r)

placed_same : (at : ℕ) (fs : List (List ℕ)) (p : Placed) → placed at fs ≡ Ok p → (entry_right p.entry ≡ true) × (fs ≡ entry_text p.entry ∷ rest fs)
placed_same at fs p e =
    let a = onward-ok (first entry_form.read at fs) _ p e in
    let q = first-same entries-faithful at fs a.0 a.1 in
    subst (λ (y : Placed). (entry_right y.entry ≡ true) × (fs ≡ entry_text y.entry ∷ rest fs)) (ok_same (record { entry = a.0; byte = at }) p a.2) q

abbrev AllRight : List (Entry Cell) → Type 0
AllRight es = AllByRecursion (λ e. entry_right e ≡ true) es

in_row-back : (es : List (Entry Cell)) (n at : ℕ) → length es ≡ n → AllRight es → in_row n at (map entry_text es) ≡ Ok (placed_from at es)
in_row-back [] n at h a = subst (λ m. in_row m at [] ≡ Ok []) h refl
in_row-back (e ∷ es) n at h a =
    let at2 = at + length (entry_text e) + 1 in
    let p : Placed = record { entry = e; byte = at } in
    subst (λ m. in_row m at (map entry_text (e ∷ es)) ≡ Ok (placed_from at (e ∷ es))) h
    (ap (λ r. onward r (λ x. onward (in_row (length es) at2 (map entry_text es)) (λ ys. Ok (x ∷ ys)))) (placed-back e at (map entry_text es) a.0)
    ∙ ap (λ r. onward r (λ ys. Ok (p ∷ ys))) (in_row-back es (length es) at2 refl a.1))

abbrev OfRow : ℕ → List (List ℕ) → List Placed → Type 0
OfRow n fs ps = (length (unplaced ps) ≡ n) × AllRight (unplaced ps) × (map entry_text (unplaced ps) ≡ fs)

in_row-same : (n at : ℕ) (fs : List (List ℕ)) (ps : List Placed) → in_row n at fs ≡ Ok ps → OfRow n fs ps
in_row-same zero at fs ps r =
    let c = none-ok [] ps at fs r in
    subst (OfRow 0 fs) c.1 (refl, tt, sym c.0)
in_row-same (suc n) at fs ps r =
    let a = onward-ok (placed at fs) _ ps r in
    let p = placed_same at fs a.0 a.1 in
    let b = onward-ok (in_row n (rest_at at fs) (rest fs)) _ ps a.2 in
    let q = in_row-same n (rest_at at fs) (rest fs) b.0 b.1 in
    subst (OfRow (suc n) fs) (ok_same (a.0 ∷ b.0) ps b.2)
    (ap suc q.0, (p.0, q.1), ap (λ l. entry_text a.0.entry ∷ l) q.2 ∙ sym p.1)

entries-back : (es : List (Entry Cell)) (n at : ℕ) → length es ≡ n → n ≤ 16 → AllRight es → entries n at (map entry_text es) ≡ Ok (placed_from at es)
entries-back es n at h few a = cond-true _ _ _ (le-leb n 16 few) ∙ in_row-back es n at h a

entries-same : (n at : ℕ) (fs : List (List ℕ)) (ps : List Placed) → entries n at fs ≡ Ok ps → (n ≤ 16) × OfRow n fs ps
entries-same n at fs ps r =
    let u = under-err (leb n 16) (in_row n at fs) 1 ps r in
    (leb-true n 16 u.0, in_row-same n at fs ps u.1)

entries-solid : (es : List (Entry Cell)) → AllRight es → AllByRecursion (λ f. AllByRecursion (λ b. 32 < b) f) (map entry_text es)
entries-solid [] a = tt
entries-solid (e ∷ es) a = (text-solid entries-faithful e a.0, entries-solid es a.1)

-- lines of every kind
of-scope : (s : Scope) (n at : ℕ) (fs : List (List ℕ)) → line_of (scope_word s) n at fs ≡ onward (quantity s at fs) (λ q. Ok (quantity_line q))
of-scope FlightS n at fs = refl
of-scope PairS n at fs = refl

line-back : (n at : ℕ) (x : Said) → LineRight n x → line_of (word_of x) n at (fields_of x) ≡ Ok (located_at at x)
line-back n at (say_quantity q) h = of-scope q.scope n at (quantity_fields q) ∙ ap (λ o. onward o (λ l. Ok (quantity_line l))) (quantity-back q at h)
line-back n at (say_row r) h = ap (λ o. onward o (λ l. Ok (row_line l))) (row_back r at h)
line-back n at (say_column x es) h =
    let fs = map entry_text es in
    let at2 = rest_at at (signed_decimal x.value ∷ fs) in
    let line : Result (Figure × List Placed) ℕ → Result Line ℕ = λ o. onward o (λ c. Ok (column_line c.0 c.1)) in
    ap (λ o. line (onward o (λ y. onward (entries n at2 fs) (λ ps. Ok (y, ps))))) (result-back x at fs h.0)
    ∙ ap (λ o. line (onward o (λ ps. Ok (x, ps)))) (entries-back es n at2 h.1 h.2 h.3)
line-back n at (say_never es) h = ap (λ o. onward o (λ ps. Ok (never_line ps))) (entries-back es n at h.0 h.1 h.2)
line-back n at (say_default x) h =
    ap (λ o. onward (onward o (λ y. none y (rest_at at (signed_decimal x.value ∷ [])) [])) (λ y. Ok (default_line y))) (result-back x at [] h)

abbrev Same : Word → ℕ → List (List ℕ) → Line → Type 0
Same w n fs l = (word_of (said l) ≡ w) × LineRight n (said l) × (fields_of (said l) ≡ fs)

of-quantity : (s : Scope) (n at : ℕ) (fs : List (List ℕ)) (l : Line) → onward (quantity s at fs) (λ q. Ok (quantity_line q)) ≡ Ok l → Same (scope_word s) n fs l
of-quantity s n at fs l e =
    let a = onward-ok (quantity s at fs) _ l e in
    let p = quantity-same s fs a.0 at a.1 in
    subst (Same (scope_word s) n fs) (ok_same _ _ a.2) (ap scope_word p.0, p.1, p.2)

line_same : (w : Word) (n at : ℕ) (fs : List (List ℕ)) (l : Line) → line_of w n at fs ≡ Ok l → Same w n fs l
line_same Flight n at fs l e = of-quantity FlightS n at fs l e
line_same PairW n at fs l e = of-quantity PairS n at fs l e
line_same RowW n at fs l e =
    let a = onward-ok (row at fs) _ l e in let p = row_same fs a.0 at a.1 in
    subst (Same RowW n fs) (ok_same _ _ a.2) (refl, p.0, p.1)
line_same Column n at fs l e =
    let c = onward-ok (column n at fs) _ l e in
    let a = onward-ok (result at fs) _ c.0 c.1 in
    let p = result-same at fs a.0 a.1 in
    let b = onward-ok (entries n (rest_at at fs) (rest fs)) _ c.0 a.2 in
    let q = entries-same n (rest_at at fs) (rest fs) b.0 b.1 in
    let r = q.1 in
    let v : (a.0, b.0) ≡ c.0 = ok_same _ _ b.2 in
    subst (Same Column n fs) (ap (λ y. column_line y.0 y.1) v ∙ ok_same _ _ c.2)
    (refl, (p.0, r.0, q.0, r.1), ap (λ t. signed_decimal a.0.value ∷ t) r.2 ∙ sym p.1)
line_same Never n at fs l e =
    let b = onward-ok (entries n at fs) _ l e in
    let q = entries-same n at fs b.0 b.1 in
    let r = q.1 in
    subst (Same Never n fs) (ok_same _ _ b.2) (refl, (r.0, q.0, r.1), r.2)
line_same Default n at fs l e =
    let d = onward-ok (default at fs) _ l e in
    let a = onward-ok (result at fs) _ d.0 d.1 in
    let p = result-same at fs a.0 a.1 in
    let c = none-ok a.0 d.0 (rest_at at fs) (rest fs) a.2 in
    subst (Same Default n fs) (ap default_line c.1 ∙ ok_same _ _ d.2) (refl, p.0, sym (p.1 ∙ ap (λ t. signed_decimal a.0.value ∷ t) c.0))
line_same End n at fs l e = let z : ◌≡◌ {A = ℕ} 0 1 = cc in absurd (omega arith)

unplaced-from : (at : ℕ) (es : List (Entry Cell)) → unplaced (placed_from at es) ≡ es
unplaced-from at [] = refl
unplaced-from at (e ∷ es) = ap (λ l. e ∷ l) (unplaced-from (at + length (entry_text e) + 1) es)

line-bare : (at : ℕ) (x : Said) → said (located_at at x) ≡ x
line-bare at (say_quantity q) = refl
line-bare at (say_row r) = refl
line-bare at (say_column x es) = ap (say_column x) (unplaced-from (rest_at at (signed_decimal x.value ∷ map entry_text es)) es)
line-bare at (say_never es) = ap say_never (unplaced-from at es)
line-bare at (say_default x) = refl

line-solid : (n : ℕ) (x : Said) → LineRight n x → AllByRecursion (λ f. AllByRecursion (λ b. 32 < b) f) (fields_of x)
line-solid n (say_quantity q) h = quantity-solid q h
line-solid n (say_row r) h = row-solid r h
line-solid n (say_column x es) h = (text-solid measures x.value h.0, entries-solid es h.3)
line-solid n (say_never es) h = entries-solid es h.2
line-solid n (say_default x) h = (text-solid measures x.value h, tt)

-- a line with its word
in-ok : (k : ℕ) (w : Word) (o : Option Section) (q : Word × Section) → in_section k w o ≡ Ok q → (w ≡ q.0) × (o ≡ Some q.1)
in-ok k w (Some t) q e = let h : (w, t) ≡ q = ok_same _ _ e in (ap (λ x. x.0) h, ap (λ x. Some x.1) h)
in-ok k w None q e = let z : ◌≡◌ {A = ℕ} 0 1 = cc in absurd (omega arith)

in_line-ok : {X : Type 0} (k : ℕ) (r : Result X ℕ) (x : X) → in_line k r ≡ Ok x → r ≡ Ok x
in_line-ok k (Ok y) x e = ap Ok (ok_same y x e)
in_line-ok k (Err b) x e = let z : ◌≡◌ {A = ℕ} 0 1 = cc in absurd (omega arith)

pub allowed-is : (s : Section) (w : Word) (t : Section) → allowed s w ≡ Some t → t ≡ section_of w
allowed-is s w t e = let u = some-under (leb (rank s) (place w) && ltb (place w) 5) (Some (section_of w)) t e in let v = u.1 in cc

word_at-ok : (s : Section) (k : ℕ) (o : Option Word) (q : Word × Section) → word_at s k o ≡ Ok q → (o ≡ Some q.0) × (allowed s q.0 ≡ Some q.1)
word_at-ok s k None q e = let z : ◌≡◌ {A = ℕ} 0 1 = cc in absurd (omega arith)
word_at-ok s k (Some w) q e =
    let r = in-ok k w (allowed s w) q e in
    (ap Some r.0, ap (allowed s) (sym r.0) ∙ r.1)

line_at-back : (s : Section) (n k : ℕ) (x : Said) (t : Section) → allowed s (word_of x) ≡ Some t → LineRight n x → line_at s n k (word_text (word_of x) ∷ fields_of x) ≡ Ok (located x, word_of x, t)
line_at-back s n k x t e h =
    let w = word_of x in
    let at = rest_at 1 (word_text w ∷ fields_of x) in
    let next : Word × Section → Result (Line × Word × Section) Refused = λ p. onward (in_line k (line_of p.0 n at (fields_of x))) (λ l. Ok (l, p.0, p.1)) in
    ap (λ o. onward (word_at s k o) next) (words-faithful.back w refl) ∙ ap (λ o. onward (in_section k w o) next) e ∙ ap (λ o. onward (in_line k o) (λ l. Ok (l, w, t))) (line-back n at x h)

abbrev pub OfLine : Section → ℕ → List (List ℕ) → Line × Word × Section → Type 0
OfLine s n fs p = (word_text p.1 ∷ fields_of (said p.0) ≡ fs) × (word_of (said p.0) ≡ p.1) × LineRight n (said p.0) × (allowed s p.1 ≡ Some p.2)

pub line_at-same : (s : Section) (n k : ℕ) (fs : List (List ℕ)) (p : Line × Word × Section) → line_at s n k fs ≡ Ok p → OfLine s n fs p
line_at-same s n k [] p e = let z : ◌≡◌ {A = ℕ} 0 1 = cc in absurd (omega arith)
line_at-same s n k (f ∷ fs) p e =
    let a = onward-ok (word_at s k (first_word f)) _ p e in
    let q = a.0 in
    let w = word_at-ok s k (first_word f) q a.1 in
    let b = onward-ok (in_line k (line_of q.0 n (rest_at 1 (f ∷ fs)) fs)) _ p a.2 in
    let g = line_same q.0 n (rest_at 1 (f ∷ fs)) fs b.0 (in_line-ok k _ b.0 b.1) in
    let v : (b.0, q.0, q.1) ≡ p = ok_same _ _ b.2 in
    subst (OfLine s n (f ∷ fs)) v
    (ap (λ t. t ∷ fields_of (said b.0)) (words-faithful.same f q.0 w.0).1 ∙ ap (λ t. f ∷ t) g.2, g.0, g.1, w.1)

-- lines one after another
lines-back : (s : Section) (n k : ℕ) (xs : List Said) → Ordered s n xs → lines_of s n k (map line_body xs) ≡ Ok (map located xs)
lines-back s n k [] h = refl
lines-back s n k (x ∷ xs) h =
    let w = word_of x in
    let t = section_of w in
    let m = rows_after w n in
    let ls = map line_body xs in
    let e : parted 32 (line_body x) ≡ word_text w ∷ fields_of x = apart 32 (word_text w) (fields_of x) (omega arith) (text-solid words-faithful w refl) (line-solid n x h.1) in
    ap (λ fs. onward (line_at s n k fs) (λ p. onward (lines_of p.2 (rows_after p.1 n) (k + 1) ls) (λ r. Ok (p.0 ∷ r)))) e
    ∙ ap (λ o. onward o (λ p. onward (lines_of p.2 (rows_after p.1 n) (k + 1) ls) (λ r. Ok (p.0 ∷ r)))) (line_at-back s n k x t h.0 h.1)
    ∙ ap (λ o. onward o (λ r. Ok (located x ∷ r))) (lines-back t m (k + 1) xs h.2)

abbrev OfLines : Section → ℕ → List (List ℕ) → List Line → Type 0
OfLines s n ls ys = Ordered s n (map said ys) × (map line_body (map said ys) ≡ ls)

lines_same : (s : Section) (n k : ℕ) (ls : List (List ℕ)) (ys : List Line) → lines_of s n k ls ≡ Ok ys → OfLines s n ls ys
lines_same s n k [] ys e = subst (OfLines s n []) (ok_same [] ys e) (tt, refl)
lines_same s n k (l ∷ ls) ys e =
    let a = onward-ok (line_at s n k (parted 32 l)) _ ys e in
    let p = a.0 in
    let x = said p.0 in
    let g = line_at-same s n k (parted 32 l) p a.1 in
    let b = onward-ok (lines_of p.2 (rows_after p.1 n) (k + 1) ls) _ ys a.2 in
    let xs = map said b.0 in
    let r = lines_same p.2 (rows_after p.1 n) (k + 1) ls b.0 b.1 in
    let w : p.1 ≡ word_of x = sym g.1 in
    let t : p.2 ≡ section_of p.1 = allowed-is s p.1 p.2 g.3 in
    let o : Ordered (section_of (word_of x)) (rows_after (word_of x) n) xs =
    subst (λ v. Ordered (section_of v) (rows_after v n) xs) w (subst (λ v. Ordered v (rows_after p.1 n) xs) t r.0) in
    let y : allowed s (word_of x) ≡ Some (section_of (word_of x)) = subst (λ v. allowed s v ≡ Some (section_of v)) w (g.3 ∙ ap Some t) in
    let u : line_body x ≡ l = ap (λ v. rejoined 32 (word_text v ∷ fields_of x)) g.1 ∙ ap (rejoined 32) g.0 ∙ whole 32 l in
    subst (OfLines s n (l ∷ ls)) (ok_same (p.0 ∷ b.0) ys b.2)
    ((y, g.2, o), ap (λ v. v ∷ map line_body xs) u ∙ ap (λ v. l ∷ v) r.1)

-- no line has a byte 10 inside
follow-free : (fs : List (List ℕ)) → AllByRecursion (λ f. AllByRecursion (λ b. 32 < b) f) fs → Free 10 (followed 32 fs)
follow-free [] a = tt
follow-free (f ∷ fs) a = ((λ e. omega arith), All-append (λ b. b ≡ 10 → ⊥) f (followed 32 fs) (free-low 10 f (omega arith) a.0) (follow-free fs a.1))

line-free : (n : ℕ) (x : Said) → LineRight n x → Free 10 (line_body x)
line-free n x h =
    let w = word_text (word_of x) in
    All-append (λ b. b ≡ 10 → ⊥) w (followed 32 (fields_of x)) (free-low 10 w (omega arith) (text-solid words-faithful (word_of x) refl)) (follow-free (fields_of x) (line-solid n x h))

lines-free : (s : Section) (n : ℕ) (xs : List Said) → Ordered s n xs → AllByRecursion (Free 10) (map line_body xs)
lines-free s n [] h = tt
lines-free s n (x ∷ xs) h = (line-free n x h.1, lines-free (section_of (word_of x)) (rows_after (word_of x) n) xs h.2)

joined-map : (xs : List Said) → flat_map (λ x. line_body x ++ (10 ∷ [])) xs ≡ flat_map (λ l. l ++ (10 ∷ [])) (map line_body xs)
joined-map [] = refl
joined-map (x ∷ xs) = ap (λ r. (line_body x ++ (10 ∷ [])) ++ r) (joined-map xs)

-- whole pages
page-back : (xs : List Said) → Ordered Quantities 0 xs → length (page_text xs) ≤ 65536 → page_of (page_text xs) ≡ Ok (map located xs)
page-back xs o h =
    let ls = map line_body xs in
    let e : flat_map (λ x. line_body x ++ (10 ∷ [])) xs ≡ flat_map (λ l. l ++ (10 ∷ [])) ls = joined-map xs in
    page-opens (flat_map (λ x. line_body x ++ (10 ∷ [])) xs) (subst Ended (sym e) (ended-joined ls)) h
    ∙ ap (lines_of Quantities 0 1) (ap lined e ∙ lined-back ls (lines-free Quantities 0 xs o))
    ∙ lines-back Quantities 0 1 xs o

page-same : (page : List ℕ) (ys : List Line) → page_of page ≡ Ok ys → Ordered Quantities 0 (map said ys) × (page_text (map said ys) ≡ page)
page-same page ys e =
    let g = page-parts page ys e in
    let r = lines_same Quantities 0 1 (lined g.0) ys g.3 in
    (r.0, ap (λ l. l ++ codes "end\n") (joined-map (map said ys) ∙ ap (flat_map (λ l. l ++ (10 ∷ []))) r.1 ∙ lined-same g.0 g.1) ∙ g.2)

pub text-faithful : Text-faithful
text-faithful = record {
  fields = record { numbers = numbers; measures = measures; times = times; modes = modes-faithful; kinds = kinds-faithful; words = words-faithful; values = values; entries = entries-faithful };
  parts = record { whole = whole; parts = apart };
  line = record { back = line-back; same = line_same; bare = line-bare };
  lines = record { back = lines-back; same = lines_same };
  pages = record { back = page-back; same = page-same };
  short = lines-short;
}
