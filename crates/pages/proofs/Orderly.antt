-- The lines of a sheet that the draft calls would accept stand in order, a page can have each of them, and they are short. Assumes nothing.
use Rattle.std.proofs.Common.{◌≡◌, ℕ, suc, ◌+◌, ◌*◌, ◌≤◌, true, ltb, leb, List, [], ◌∷◌, ◌++◌, map, length, Some, None, Option, sym, refl, subst, mul-suc, arith}
use Rattle.std.specs.List.{AllByRecursion}
use Rattle.std.proofs.ByRecursion.{All-weaker}
use Rattle.std.proofs.lemmas.Bool.{and_from, cond-true, le-leb, lt-ltb}
use Rattle.house.specs.House.{Value, Cell, house}
use Rattle.items.specs.declared.Quantity.{Quantity}
use Rattle.items.specs.declared.Row.{Row}
use Rattle.items.specs.declared.Scope.{Scope}
use Rattle.items.specs.declared.Scope.TheVariants.{Flight, Pair}
use Rattle.results.specs.declared.figure.Figure.{Figure}
use Rattle.results.specs.Figures.{figures}
use Rattle.tables.specs.Acceptance.{Acceptable, range_lawful, row_lawful, EntriesLawful, DefaultLawful}
use Rattle.tables.specs.Contents.{Column}
use Rattle.tables.proofs.Reaching.{exists}
use Rattle.text.specs.Lines.{rows_after}
use Rattle.text.specs.Texts.{row_right, Said, say_quantity, say_row, say_column, say_never, scope_word, word_of, LineRight, Ordered, room, rooms}
use Rattle.text.specs.Words.{rank, place, allowed, section_of}
use Rattle.text.specs.declared.types.Section.{Section}
use Rattle.text.specs.declared.types.Section.TheVariants.{Quantities, Rows, Columns, Nevers}
use Rattle.pages.specs.NameBits.{EntryOnlyNames, NoBitBeyond}
use Rattle.pages.specs.Writes.{default_lines, lines_of}
use Rattle.pages.proofs.Agreeing.{PageContents}
use Rattle.pages.proofs.PageRight.{measure-right, range-right, entries-even, entries-right}
use Rattle.pages.proofs.Sections.{allowed-place}

-- what two promises of each item give of it together
All-both : {X : Type 0} (P Q R : X → Type 0) → ((x : X) → P x → Q x → R x) → (xs : List X) → AllByRecursion P xs → AllByRecursion Q xs → AllByRecursion R xs
All-both P Q R f [] h k = tt
All-both P Q R f (x ∷ xs) h k = (f x h.0 k.0, All-both P Q R f xs h.1 k.1)

-- lines that may stand in a section may stand in an earlier one
earlier : (s t : Section) (n : ℕ) (xs : List Said) → rank s ≤ rank t → Ordered t n xs → Ordered s n xs
earlier s t n [] h o = tt
earlier s t n (x ∷ xs) h o =
    let p = allowed-place t (word_of x) (section_of (word_of x)) o.0 in
    let w = word_of x in
    (cond-true _ _ _ (and_from (leb (rank s) (place w)) (ltb (place w) 5) (le-leb (rank s) (place w) (omega arith)) (lt-ltb (place w) 5 p.1)), o.1, o.2)

-- lines of one section before others
group : {X : Type 0} (t : Section) (n : ℕ) (f : X → Said) → ((x : X) → (allowed t (word_of (f x)) ≡ Some (section_of (word_of (f x)))) × (section_of (word_of (f x)) ≡ t) × (rows_after (word_of (f x)) n ≡ n))
    → (xs : List X) (rest : List Said) → AllByRecursion (λ x. LineRight n (f x)) xs → Ordered t n rest → Ordered t n (map f xs ++ rest)
group t n f a [] rest h o = o
group t n f a (x ∷ xs) rest h o =
    let r = group t n f a xs rest h.1 o in
    ((a x).0, h.0, subst (λ s. Ordered s (rows_after (word_of (f x)) n) (map f xs ++ rest)) (sym (a x).1) (subst (λ i. Ordered t i (map f xs ++ rest)) (sym (a x).2) r))

scope-first : (s : Scope) → (allowed Quantities (scope_word s) ≡ Some (section_of (scope_word s))) × (section_of (scope_word s) ≡ Quantities) × (rows_after (scope_word s) 0 ≡ 0)
scope-first Flight = (refl, refl, refl)
scope-first Pair = (refl, refl, refl)

rows-first : (i : ℕ) (ws : List Row) (rest : List Said) → AllByRecursion (λ w. row_right w ≡ true) ws → Ordered Rows (i + length ws) rest → Ordered Rows i (map say_row ws ++ rest)
rows-first i [] rest h o = let e : i + 0 ≡ i = omega arith in subst (λ n. Ordered Rows n rest) e o
rows-first i (w ∷ ws) rest h o = let e : i + suc (length ws) ≡ i + 1 + length ws = omega arith in (refl, h.0, rows-first (i + 1) ws rest h.1 (subst (λ n. Ordered Rows n rest) e o))

module _ (c : PageContents) (ok : Acceptable house figures c) (only : NoBitBeyond c) where
  abbrev qs : List (Quantity Value)
  qs = c.quantities

  abbrev ws : List Row
  ws = c.rows

  abbrev n : ℕ
  n = length c.rows

  row-right : (w : Row) → row_lawful house qs w ≡ true → row_right w ≡ true
  row-right w h =
      let few = ok.quantities.0 in
      lt-ltb w.quantity 10000000 (omega (arith, exists house figures qs qs w w.quantity h))

  abbrev column_line : Column Cell Figure → Said
  column_line k = say_column k.result k.entries

  column-right : (k : Column Cell Figure) → EntriesLawful house qs ws k.entries × (figures.lawful k.result ≡ true) → AllByRecursion EntryOnlyNames k.entries → LineRight n (column_line k)
  column-right k h o = (measure-right k.result.value h.1, entries-even qs ws k.entries h.0, ok.rows.0, entries-right qs ws k.entries h.0 o)

  default-ordered : (d : Option Figure) → DefaultLawful figures d → Ordered Nevers n (default_lines d)
  default-ordered None h = tt
  default-ordered (Some x) h = (refl, measure-right x.value h, tt)

  pub lines-ordered : Ordered Quantities 0 (lines_of c)
  lines-ordered =
      let end = default_lines c.default in
      let nevers = map say_never c.nevers ++ end in
      let columns = map column_line c.columns ++ nevers in
      let rows = map say_row ws ++ columns in
      group Quantities 0 say_quantity (λ q. scope-first q.scope) qs rows (All-weaker (λ q. range_lawful house q ≡ true) (λ q. LineRight 0 (say_quantity q)) (λ q. range-right q.scope q.least q.greatest) qs ok.quantities.1)
      (earlier Quantities Rows 0 rows (omega arith)
      (rows-first 0 ws columns (All-weaker (λ w. row_lawful house qs w ≡ true) (λ w. row_right w ≡ true) row-right ws ok.rows.1)
      (let e : n ≡ 0 + n = omega arith in subst (λ i. Ordered Rows i columns) e
      (earlier Rows Columns n columns (omega arith)
      (group Columns n column_line (λ k. (refl, refl, refl)) c.columns nevers (All-both _ _ (λ k. LineRight n (column_line k)) column-right c.columns ok.columns.1 only.columns)
      (earlier Columns Nevers n nevers (omega arith)
      (group Nevers n say_never (λ es. (refl, refl, refl)) c.nevers end (All-both _ _ (λ es. LineRight n (say_never es)) (λ es h o. (entries-even qs ws es h, ok.rows.0, entries-right qs ws es h o)) c.nevers ok.nevers.1 only.nevers)
      (default-ordered c.default ok.default))))))))

rooms-both : (xs ys : List Said) → rooms (xs ++ ys) ≡ rooms xs + rooms ys
rooms-both [] ys = omega arith
rooms-both (x ∷ xs) ys = omega (arith, rooms-both xs ys)

rooms-map : {X : Type 0} (f : X → Said) (k : ℕ) → ((x : X) → room (f x) ≡ k) → (xs : List X) → rooms (map f xs) ≡ k * length xs
rooms-map f k h [] = omega arith
rooms-map f k h (x ∷ xs) = omega (arith, h x, rooms-map f k h xs, mul-suc k (length xs))

default-short : (d : Option Figure) → rooms (default_lines d) ≤ 17
default-short None = omega arith
default-short (Some x) = omega arith

pub lines-few : (c : PageContents) → Acceptable house figures c → rooms (lines_of c) + 4 ≤ 65536
lines-few c ok =
    let end = default_lines c.default in
    let nevers = map say_never c.nevers in
    let columns = map (λ k. say_column k.result k.entries) c.columns in
    let rows = map say_row c.rows in
    let quantities = map say_quantity c.quantities in
    let a = rooms-both quantities (rows ++ (columns ++ (nevers ++ end))) in
    let b = rooms-both rows (columns ++ (nevers ++ end)) in
    let d = rooms-both columns (nevers ++ end) in
    let e = rooms-both nevers end in
    let p = rooms-map say_quantity 33 (λ x. refl) c.quantities in
    let q = rooms-map say_row 19 (λ x. refl) c.rows in
    let r = rooms-map (λ k. say_column k.result k.entries) 1600 (λ x. refl) c.columns in
    let s = rooms-map say_never 1590 (λ x. refl) c.nevers in
    let t = default-short c.default in
    omega (arith, ok.quantities.0, ok.rows.0, ok.columns.0, ok.nevers.0)
