-- Lines written one after another. Assumes nothing.
use Rattle.std.proofs.Common.{◌≡◌, ℕ, ◌+◌, ◌<◌, List, [], ◌∷◌, ◌++◌, map, length, get_or, take, None, Option, sym, refl, ap, ◌∙◌, arith}
use Rattle.std.specs.List.{range_with_len, flat_map}
use Rattle.std.proofs.lemmas.List.FromFn.{map-range_with_len_more}
use Rattle.std.proofs.lemmas.List.{append_assoc, flat_map_more, length-take-le, map_more, map_push, take_more}
use Rattle.house.specs.House.{Value, Cell}
use Rattle.items.specs.declared.Entry.{Entry}
use Rattle.results.specs.declared.figure.Figure.{Figure}
use Rattle.tables.specs.Contents.{Contents, Column}
use Rattle.tables.specs.Storage.{column_of, columns_from}
use Rattle.tables.proofs.Storing.{columns-push}
use Rattle.text.specs.Texts.{Said, say_quantity, say_row, say_column, say_never, line_text}
use Rattle.pages.specs.Writes.{default_lines, lines_of}
use Rattle.writer.specs.Writing.{Wrote}
use Rattle.writer.specs.declared.buffer.Writer.{Writer}
use Rattle.writer.proofs.Wrote.{wrote_none, wrote-more, wrote_as}

-- what lines say, byte by byte
abbrev pub texts : List Said → List ℕ
texts xs = flat_map line_text xs

module _ {live : ℕ} {w v u : Writer live} where
  -- one line more
  line_on : (xs : List Said) (x : Said) → Wrote w (texts xs) v → Wrote v (line_text x) u → Wrote w (texts (xs ++ (x ∷ []))) u
  line_on xs x a b = wrote_as (flat_map_more line_text [] xs x) (wrote-more a b)

  pub item_on : {X : Type 0} (f : X → Said) (xs : List X) (i : ℕ) (d : X) → i < length xs → Wrote w (texts (map f (take i xs))) v → Wrote v (line_text (f (get_or xs i d))) u → Wrote w (texts (map f (take (i + 1) xs))) u
  item_on f xs i d h a b = wrote_as (ap texts (sym (map_more f xs i d h))) (line_on (map f (take i xs)) (f (get_or xs i d)) a b)

  pub column-on : (es : List (Entry Cell)) (n j : ℕ) (xs : List Figure) (d : Figure) → j < length xs → Wrote w (texts (map (λ k. say_column k.result k.entries) (columns_from es n 0 (take j xs)))) v
      → Wrote v (line_text (say_column (get_or xs j d) (column_of es n j))) u → Wrote w (texts (map (λ k. say_column k.result k.entries) (columns_from es n 0 (take (j + 1) xs)))) u
  column-on es n j xs d h a b =
      let f : Column Cell Figure → Said = λ k. say_column k.result k.entries in
      let ks = columns_from es n 0 (take j xs) in
      let k : Column Cell Figure = record { entries = column_of es n j; result = get_or xs j d } in
      let few : 0 + length (take j xs) ≡ j = let e = length-take-le j xs (omega arith) in omega arith in
      let e : columns_from es n 0 (take (j + 1) xs) ≡ ks ++ (k ∷ []) = ap (columns_from es n 0) (take_more xs j d h) ∙ columns-push es n 0 j (take j xs) (get_or xs j d) few in
      wrote_as (ap texts (sym (map_push f ks k) ∙ ap (map f) (sym e))) (line_on (map f ks) (f k) a b)

  pub never_on : (es : List (Entry Cell)) (n j : ℕ) → Wrote w (texts (map say_never (map (λ j. column_of es n (16 + j)) (range_with_len 0 j)))) v → Wrote v (line_text (say_never (column_of es n (16 + j)))) u
      → Wrote w (texts (map say_never (map (λ j. column_of es n (16 + j)) (range_with_len 0 (j + 1))))) u
  never_on es n j a b =
      let ns = map (λ j. column_of es n (16 + j)) (range_with_len 0 j) in
      let e = column_of es n (16 + j) in
      wrote_as (ap texts (sym (map_push say_never ns e) ∙ ap (map say_never) (sym (map-range_with_len_more (λ j. column_of es n (16 + j)) 0 j j (omega arith))))) (line_on (map say_never ns) (say_never e) a b)

pub default_none : {live : ℕ} (w : Writer live) (o : Option Figure) → None ≡ o → Wrote w (texts (default_lines o)) w
default_none w o e = wrote_as (ap (λ o. texts (default_lines o)) e) (wrote_none w)

-- lines and then others
both : {live : ℕ} {w v u : Writer live} (xs ys : List Said) → Wrote w (texts xs) v → Wrote v (texts ys) u → Wrote w (texts (xs ++ ys)) u
both xs ys a b = wrote_as (texts-both xs ys) (wrote-more a b)
  where
    texts-both : (xs ys : List Said) → texts xs ++ texts ys ≡ texts (xs ++ ys)
    texts-both [] ys = refl
    texts-both (x ∷ xs) ys = append_assoc (line_text x) (texts xs) (texts ys) ∙ ap (λ t. line_text x ++ t) (texts-both xs ys)

-- the sections of a page
module _ (c : Contents Value Cell Figure) where
  abbrev quantities : List Said
  quantities = map say_quantity c.quantities

  abbrev rows : List Said
  rows = map say_row c.rows

  abbrev columns : List Said
  columns = map (λ k. say_column k.result k.entries) c.columns

  abbrev nevers : List Said
  nevers = map say_never c.nevers

  abbrev end : List Said
  end = default_lines c.default

  pub sections-on : {live : ℕ} {w a b d e u : Writer live} → Wrote w (texts quantities) a → Wrote a (texts rows) b → Wrote b (texts columns) d → Wrote d (texts nevers) e → Wrote e (texts end) u → Wrote w (texts (lines_of c)) u
  sections-on p q r s t = both quantities (rows ++ (columns ++ (nevers ++ end))) p (both rows (columns ++ (nevers ++ end)) q (both columns (nevers ++ end) r (both nevers end s t)))
