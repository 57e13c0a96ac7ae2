-- The lines of a sheet that the draft calls would accept are a way from no contents to its contents. Assumes nothing.
use Rattle.std.proofs.Common.{◌≡◌, ℕ, suc, ◌+◌, ◌-◌, ◌<◌, ◌≤◌, true, ltb, List, [], ◌∷◌, ◌++◌, map, length, set, Some, None, Option, sym, refl, ap, ◌∙◌, subst, append_assoc, append-nil, arith, length-append}
use Rattle.std.specs.List.{slice_get, AllByRecursion}
use Rattle.std.proofs.lemmas.Bool.{and_from, cond-true, cond-false, lt-ltb, le-ltb}
use Rattle.house.specs.House.{Value, Cell, house}
use Rattle.items.specs.declared.Entry.{Entry}
use Rattle.items.specs.declared.Quantity.{Quantity}
use Rattle.items.specs.declared.Row.{Row}
use Rattle.results.specs.declared.figure.Figure.{Figure}
use Rattle.results.specs.Figures.{figures}
use Rattle.tables.specs.Acceptance.{Acceptable, range_lawful, row_lawful, EntriesLawful, DefaultLawful}
use Rattle.tables.specs.Calls.{any_of, column_exists, edited, empty, lawful_at, set_cell}
use Rattle.tables.specs.Contents.{Column}
use Rattle.tables.proofs.Reaching.{exists, nth-at}
use Rattle.text.specs.Texts.{Said, say_quantity, say_row, say_column, say_never}
use Rattle.pages.specs.Writes.{default_lines, lines_of}
use Rattle.pages.specs.ThereAndBack.{set_cells}
use Rattle.pages.proofs.Agreeing.{PageContents, Agreed, AllAgreed}
use Rattle.pages.proofs.LineCalls.{added, put-column, put-never}
use Rattle.pages.proofs.PageRight.{entries-even}
use Rattle.pages.proofs.Ways.{Taken, taken, Way, way_then}

-- lines of one kind, up to n: each adds its item behind the others
way-all : {X : Type 0} (P : X → Type 0) (n : ℕ) (g : X → Said) (f : List X → PageContents) → ((xs : List X) (x : X) → length xs < n → P x → Taken (f xs) (g x) × (added (g x) (f xs) ≡ f (xs ++ (x ∷ []))))
    → (xs rest : List X) → length xs + length rest ≤ n → AllByRecursion P rest → Way (f xs) (map g rest) (f (xs ++ rest))
way-all P n g f put xs [] l a = ap f (sym (append-nil xs))
way-all P n g f put xs (x ∷ rest) l a =
    let s = put xs x (omega arith) a.0 in (
      s.0,
      subst (λ c. Way c (map g rest) (f (xs ++ (x ∷ rest)))) (sym s.1)
          (subst (λ l. Way (f (xs ++ (x ∷ []))) (map g rest) (f l)) (append_assoc xs (x ∷ []) rest) (way-all P n g f put (xs ++ (x ∷ [])) rest (simp length-append (omega arith)) a.1)),
    )

abbrev holding : List (Quantity Value) → List Row → List (Column Cell Figure) → List (List (Entry Cell)) → Option Figure → PageContents
holding qs ws ks ns d = record { quantities = qs; rows = ws; columns = ks; nevers = ns; default = d }

-- lawful entries are accepted one after the other, in contents g that have the entries set so far in their last column
fill-agreed : (qs : List (Quantity Value)) (ws : List Row) (g : List (Entry Cell) → PageContents) (j : ℕ) → ((i : ℕ) (x : Entry Cell) (es : List (Entry Cell)) → edited (set_cell i j x) (g es) ≡ g (set es i x))
    → ((i : ℕ) (x : Entry Cell) (es : List (Entry Cell)) → i < length ws → lawful_at house figures qs (slice_get ws i) x ≡ true → Agreed (set_cell i j x) (g es))
    → (vs us : List Row) → vs ++ us ≡ ws → (i : ℕ) → length vs ≡ i → (old es : List (Entry Cell)) → EntriesLawful house qs us es → AllAgreed (set_cells j i es) (g old)
fill-agreed qs ws g j put ask vs [] e i l old [] h = tt
fill-agreed qs ws g j put ask vs [] e i l old (x ∷ es) h = absurd h
fill-agreed qs ws g j put ask vs (w ∷ us) e i l old [] h = absurd h
fill-agreed qs ws g j put ask vs (w ∷ us) e i l old (x ∷ es) h =
    let low : i < length ws = omega (arith, simp length-append at (ap length e)) in
    let here : slice_get ws i ≡ Some w = ap (λ l. slice_get l i) (sym e) ∙ ap (slice_get (vs ++ (w ∷ us))) (sym l) ∙ nth-at vs us w in (
      ask i x old low (ap (λ o. lawful_at house figures qs o x) here ∙ h.0),
      subst (AllAgreed (set_cells j (suc i) es)) (sym (put i x old))
          (fill-agreed qs ws g j put ask (vs ++ (w ∷ [])) us (append_assoc vs (w ∷ []) us ∙ e) (suc i) (simp length-append (omega arith)) (set old i x) es h.1),
    )

module _ (qs : List (Quantity Value)) (ws : List Row) where
  column-taken : (ks : List (Column Cell Figure)) (k : Column Cell Figure) → length ks < 16 → EntriesLawful house qs ws k.entries × (figures.lawful k.result ≡ true) → Taken (holding qs ws ks [] None) (say_column k.result k.entries)
  column-taken ks k l y =
      let c = holding qs ws ks [] None in
      let j = length ks in
      let few = lt-ltb j 16 l in
      taken c (say_column k.result k.entries) (entries-even qs ws k.entries y.0) (
        (few, (y.1, tt)),
        fill-agreed qs ws (λ es. added (say_column k.result es) c) j (λ i x es. put-column c i x es k.result few)
            (λ i x es low h. (and_from (ltb i (length ws)) (column_exists (added (say_column k.result es) c) j) (lt-ltb i (length ws) low) (cond-true (ltb j 16) _ _ few ∙ lt-ltb j _ (simp length-append (omega arith))), (h, tt)))
            [] ws refl 0 refl (any_of ws) k.entries y.0,
      )

  never-taken : (ks : List (Column Cell Figure)) (ns : List (List (Entry Cell))) (es : List (Entry Cell)) → length ns < 8 → EntriesLawful house qs ws es → Taken (holding qs ws ks ns None) (say_never es)
  never-taken ks ns es l y =
      let c = holding qs ws ks ns None in
      let j = 16 + length ns in
      taken c (say_never es) (entries-even qs ws es y) (
        (lt-ltb (length ns) 8 l, tt),
        fill-agreed qs ws (λ es. added (say_never es) c) j (put-never c)
            (λ i x es low h. (and_from (ltb i (length ws)) (column_exists (added (say_never es) c) j) (lt-ltb i (length ws) low) (cond-false (ltb j 16) _ _ (le-ltb j 16 (omega arith)) ∙ lt-ltb (j - 16) _ (simp length-append (omega arith))), (h, tt)))
            [] ws refl 0 refl (any_of ws) es y,
      )

default-way : (c : PageContents) (d : Option Figure) → DefaultLawful figures d → Way (holding c.quantities c.rows c.columns c.nevers None) (default_lines d) (holding c.quantities c.rows c.columns c.nevers d)
default-way c None h = refl
default-way c (Some x) h = ((((h, tt), tt), refl), refl)

pub lines-way : (c : PageContents) → Acceptable house figures c → Way empty (lines_of c) c
lines-way c ok =
    let qs = c.quantities in
    let ws = c.rows in
    let ks = c.columns in
    let ns = c.nevers in
    way_then empty (holding qs [] [] [] None) c (map say_quantity qs) _
    (way-all (λ q. range_lawful house q ≡ true) 16 say_quantity (λ qs. holding qs [] [] [] None) (λ xs q l y. (taken (holding xs [] [] [] None) (say_quantity q) tt ((lt-ltb (length xs) 16 l, (y, tt)), tt), refl)) [] qs (omega (arith, ok.quantities.0)) ok.quantities.1)
    (way_then (holding qs [] [] [] None) (holding qs ws [] [] None) c (map say_row ws) _
    (way-all (λ w. row_lawful house qs w ≡ true) 16 say_row (λ ws. holding qs ws [] [] None)
    (λ xs w l y. (taken (holding qs xs [] [] None) (say_row w) tt ((lt-ltb (length xs) 16 l, (lt-ltb w.quantity (length qs) (exists house figures qs qs w w.quantity y), (y, tt))), tt), refl)) [] ws (omega (arith, ok.rows.0)) ok.rows.1)
    (way_then (holding qs ws [] [] None) (holding qs ws ks [] None) c (map (λ k. say_column k.result k.entries) ks) _
    (way-all (λ k. EntriesLawful house qs ws k.entries × (figures.lawful k.result ≡ true)) 16 (λ k. say_column k.result k.entries) (λ ks. holding qs ws ks [] None) (λ ks k l y. (column-taken qs ws ks k l y, refl)) [] ks (omega (arith, ok.columns.0)) ok.columns.1)
    (way_then (holding qs ws ks [] None) (holding qs ws ks ns None) c (map say_never ns) _
    (way-all (EntriesLawful house qs ws) 8 say_never (λ ns. holding qs ws ks ns None) (λ ns es l y. (never-taken qs ws ks ns es l y, refl)) [] ns (omega (arith, ok.nevers.0)) ok.nevers.1)
    (default-way c c.default ok.default))))
