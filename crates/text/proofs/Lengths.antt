-- How long a line is at most.
use Rattle.std.proofs.Common.{◌≡◌, ℕ, zero, suc, ◌+◌, ◌*◌, ◌/◌, ◌%◌, ◌<◌, ◌≤◌, Bool, true, false, cond, eqb, List, [], ◌∷◌, ◌++◌, map, length, ℤ, pos, negsuc, decimal, ap, ◌∙◌, arith}
use Rattle.std.specs.Fmt.{signed_decimal}
use Rattle.std.specs.List.{flat_map, AllByRecursion}
use Rattle.std.proofs.lemmas.Fmt.{length-decimal-le}
use Rattle.std.proofs.lemmas.List.{length-append}
use Rattle.std.proofs.lemmas.Bool.{and_parts, ltb-true}
use Rattle.joined.specs.declared.Either.TheVariants.{Left, Right}
use Rattle.house.specs.House.{Value, Cell}
use Rattle.items.specs.declared.Mode.{Mode}
use Rattle.items.specs.declared.Mode.TheVariants.{A, B, Both, Either, Pair}
use Rattle.items.specs.declared.Scope.{Scope}
use Rattle.items.specs.declared.Scope.TheVariants.{Flight as FlightS, Pair as PairS}
use Rattle.items.specs.declared.Entry.{Entry}
use Rattle.items.specs.declared.Entry.TheVariants.{Any, Cell as CellE}
use Rattle.text.specs.Fields.{followed, rejoined}
use Rattle.text.specs.Words.{section_of}
use Rattle.text.specs.Lines.{rows_after}
use Rattle.text.specs.Texts.{seven_digits, mode_text, kind_text, word_text, value_text, kind_of, value_right, band_text, marked_text, names_in, names_text, cell_text, cell_right, entry_text, entry_right, Said, say_quantity, say_row, say_column, say_never, say_default, scope_word, word_of, line_text, LineRight, Ordered, page_text, room, rooms}
use Rattle.text.specs.Promises.{Lines-short}
use Rattle.text.specs.declared.types.KindWord.{KindWord}
use Rattle.text.specs.declared.types.KindWord.TheVariants.{Measure, Names, Clock}
use Rattle.text.specs.declared.types.Section.{Section}

-- numbers and words
decimal-le : (n : ℕ) → n < 10000000 → length (decimal n) ≤ 7
decimal-le n h = length-decimal-le 7 n (omega arith) h (omega arith)

signed_le : (z : ℤ) → seven_digits z ≡ true → length (signed_decimal z) ≤ 8
signed_le (pos n) r = let h : n < 10000000 = ltb-true _ _ r in omega (arith, decimal-le n h)
signed_le (negsuc n) r = let h : n < 9999999 = ltb-true _ _ r in omega (arith, decimal-le (suc n) (omega arith))

mode-le : (m : Mode) → length (mode_text m) ≤ 6
mode-le A = omega arith
mode-le B = omega arith
mode-le Both = omega arith
mode-le Either = omega arith
mode-le Pair = omega arith

kind-le : (k : KindWord) → length (kind_text k) ≤ 7
kind-le Measure = omega arith
kind-le Names = omega arith
kind-le Clock = omega arith

scope-le : (s : Scope) → length (word_text (scope_word s)) ≤ 6
scope-le FlightS = omega arith
scope-le PairS = omega arith

value-le : (k : KindWord) (v : Value) → value_right k v ≡ true → length (value_text v) ≤ 8
value-le Measure (Left z) r = signed_le z r
value-le Measure (Right (Left n)) r = let q : ◌≡◌ {A = ℕ} 0 1 = cc in absurd (omega arith)
value-le Measure (Right (Right t)) r = let q : ◌≡◌ {A = ℕ} 0 1 = cc in absurd (omega arith)
value-le Names (Left z) r = let q : ◌≡◌ {A = ℕ} 0 1 = cc in absurd (omega arith)
value-le Names (Right (Left n)) r = let h : n < 10000000 = ltb-true _ _ r in omega (arith, decimal-le n h)
value-le Names (Right (Right t)) r = let q : ◌≡◌ {A = ℕ} 0 1 = cc in absurd (omega arith)
value-le Clock (Left z) r = let q : ◌≡◌ {A = ℕ} 0 1 = cc in absurd (omega arith)
value-le Clock (Right (Left n)) r = let q : ◌≡◌ {A = ℕ} 0 1 = cc in absurd (omega arith)
value-le Clock (Right (Right t)) r = omega arith

-- names of a set
followed-le : (k n bits : ℕ) → n + k ≤ 32 → length (followed 44 (map decimal (names_in k n bits))) ≤ 3 * k
followed-le zero n bits h = omega arith
followed-le (suc k) n bits h =
    let r = followed-le k (suc n) (bits / 2) (omega arith) in
    let d : length (decimal n) ≤ 2 = length-decimal-le 2 n (omega arith) (omega arith) (omega arith) in
    let l = length-append (decimal n) (followed 44 (map decimal (names_in k (suc n) (bits / 2)))) in
    elim (eqb (bits % 2) 1) as (λ t. length (followed 44 (map decimal (cond t (n ∷ names_in k (suc n) (bits / 2)) (names_in k (suc n) (bits / 2))))) ≤ 3 * suc k)
    [ true ↦ omega arith | false ↦ omega arith ]

rejoined-le : (ps : List (List ℕ)) → length (rejoined 44 ps) ≤ length (followed 44 ps)
rejoined-le [] = omega arith
rejoined-le (p ∷ ps) = omega arith

braced-le : (k bits : ℕ) → k ≤ 32 → length (123 ∷ (rejoined 44 (map decimal (names_in k 0 bits)) ++ (125 ∷ []))) ≤ 3 * k + 2
braced-le k bits h =
    let ps = map decimal (names_in k 0 bits) in
    omega (arith, followed-le k 0 bits (omega arith), rejoined-le ps, length-append (rejoined 44 ps) (125 ∷ []))

names-le : (bits : ℕ) → length (names_text bits) ≤ 98
names-le bits = braced-le 32 bits (omega arith)

-- cells and entries
band-le : (lo hi : ℤ) → seven_digits lo ≡ true → seven_digits hi ≡ true → length (band_text lo hi) ≤ 18
band-le lo hi r s = omega (arith, length-append (signed_decimal lo) (46 ∷ (46 ∷ signed_decimal hi)), signed_le lo r, signed_le hi s)

marked-le : (inside : Bool) (lo hi : ℤ) → seven_digits lo ≡ true → seven_digits hi ≡ true → length (marked_text inside lo hi) ≤ 98
marked-le true lo hi r s = omega (arith, band-le lo hi r s)
marked-le false lo hi r s = omega (arith, band-le lo hi r s)

cell-le : (c : Cell) → cell_right c ≡ true → length (cell_text c) ≤ 98
cell-le (Left c) r = let p = and_parts (seven_digits c.lo) (seven_digits c.hi) r in marked-le c.inside c.lo c.hi p.0 p.1
cell-le (Right (Left c)) r = names-le c.bits
cell-le (Right (Right c)) r = omega arith

entry-le : (e : Entry Cell) → entry_right e ≡ true → length (entry_text e) ≤ 98
entry-le Any r = omega arith
entry-le (CellE c) r = cell-le c r

entries-le : (es : List (Entry Cell)) → AllByRecursion (λ e. entry_right e ≡ true) es → length (followed 32 (map entry_text es)) ≤ 99 * length es
entries-le [] a = omega arith
entries-le (e ∷ es) a =
    omega (arith, length-append (entry_text e) (followed 32 (map entry_text es)), entry-le e a.0, entries-le es a.1)

-- lines
line_at : (word : List ℕ) (fs : List (List ℕ)) → length (rejoined 32 (word ∷ fs) ++ (10 ∷ [])) ≡ length word + length (followed 32 fs) + 1
line_at word fs = length-append (word ++ followed 32 fs) (10 ∷ []) ∙ ap (λ n. n + 1) (length-append word (followed 32 fs))

followed-at : (f : List ℕ) (fs : List (List ℕ)) → length (followed 32 (f ∷ fs)) ≡ 1 + length f + length (followed 32 fs)
followed-at f fs = length-append (32 ∷ f) (followed 32 fs) ∙ ap (λ n. n + length (followed 32 fs)) (omega arith)

line-le : (n : ℕ) (x : Said) → LineRight n x → length (line_text x) ≤ room x
line-le n (say_quantity q) h =
    let k = kind_of q.least in
    let p = and_parts (value_right k q.least) (value_right k q.greatest) h in
    let a = kind_text k in let b = value_text q.least in let c = value_text q.greatest in
    omega (
      arith,
      line_at (word_text (scope_word q.scope)) (a ∷ (b ∷ (c ∷ []))),
      followed-at a (b ∷ (c ∷ [])),
      followed-at b (c ∷ []),
      followed-at c [],
      scope-le q.scope,
      kind-le k,
      value-le k q.least p.0,
      value-le k q.greatest p.1,
    )
line-le n (say_row r) h =
    let a = decimal r.quantity in let b = mode_text r.mode in
    let small : r.quantity < 10000000 = ltb-true _ _ h in
    omega (arith, line_at (word_text (word_of (say_row r))) (a ∷ (b ∷ [])), followed-at a (b ∷ []), followed-at b [], decimal-le r.quantity small, mode-le r.mode)
line-le n (say_column x es) h =
    let a = signed_decimal x.value in let fs = map entry_text es in
    let rows = h.1 in let few = h.2 in
    omega (arith, line_at (word_text (word_of (say_column x es))) (a ∷ fs), followed-at a fs, signed_le x.value h.0, entries-le es h.3)
line-le n (say_never es) h =
    let fs = map entry_text es in
    let rows = h.0 in let few = h.1 in
    omega (arith, line_at (word_text (word_of (say_never es))) fs, entries-le es h.2)
line-le n (say_default x) h =
    let a = signed_decimal x.value in
    omega (arith, line_at (word_text (word_of (say_default x))) (a ∷ []), followed-at a [], signed_le x.value h)

-- pages
lines-le : (s : Section) (n : ℕ) (xs : List Said) → Ordered s n xs → length (flat_map line_text xs) ≤ rooms xs
lines-le s n [] h = omega arith
lines-le s n (x ∷ xs) h =
    let a : length (flat_map line_text (x ∷ xs)) ≡ length (line_text x) + length (flat_map line_text xs) = length-append (line_text x) (flat_map line_text xs) in
    omega (arith, line-le n x h.1, lines-le (section_of (word_of x)) (rows_after (word_of x) n) xs h.2)

page-le : (s : Section) (n : ℕ) (xs : List Said) → Ordered s n xs → length (page_text xs) ≤ rooms xs + 4
page-le s n xs h = omega (arith, length-append (flat_map line_text xs) (101 ∷ (110 ∷ (100 ∷ (10 ∷ [])))), lines-le s n xs h)

pub lines-short : Lines-short
lines-short = record { line = line-le; page = page-le }
