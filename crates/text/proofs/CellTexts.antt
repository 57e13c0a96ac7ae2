-- Cells and entries: what is written reads back, and what was read is written back.
use Rattle.std.proofs.Common.{◌≡◌, ℕ, zero, suc, ◌+◌, ◌-◌, ◌*◌, ◌/◌, ◌%◌, ◌^◌, ◌<◌, ◌≤◌, Bool, true, false, cond, ◌&&◌, eqb, ltb, leb, ◌⊎◌, List, [], ◌∷◌, ◌++◌, map, length, get_or, take, drop, ℤ, pos, negsuc, Some, None, codes, decimal, Option, sym, refl, ap, ◌∙◌, subst, inl, inr, ⊎_elim, pow-suc, arith}
use Rattle.std.specs.Char.{is_ascii_digit}
use Rattle.std.specs.Fmt.{signed_decimal}
use Rattle.std.specs.Str.{all_ascii_digits, bytes_eq}
use Rattle.std.specs.List.{between, AllByRecursion}
use Rattle.std.proofs.lemmas.Slice.Eq.{bytes_eq-Decides}
use Rattle.std.proofs.lemmas.Fmt.{digits_decimal, decimal_nonempty}
use Rattle.std.proofs.lemmas.List.{take_at, drop_at, drop-drop, drop_more, take-append-drop, take_rest, take_all, length-append, length-drop, get_or-append_right, get_or_past, get_or_at, nil_from_length, drop_all}
use Rattle.std.proofs.lemmas.Bool.{cond-true, cond-false, eq-eqb, ne_eqb, eqb-true, and_from, and_parts, ltb-true, leb-true, lt-ltb, le-leb, cases_Bool, cases_lt}
use Rattle.std.proofs.lemmas.Bool.Decides.{nat_tests}
use Rattle.joined.specs.declared.Either.TheVariants.{Left, Right}
use Rattle.house.specs.House.{Cell}
use Rattle.items.specs.declared.Entry.{Entry}
use Rattle.items.specs.declared.Entry.TheVariants.{Any, Cell as CellE}
use Rattle.text.specs.Forms.{Faithful}
use Rattle.text.specs.Fields.{up_to, parted, rejoined, followed}
use Rattle.text.specs.Numbers.{number, measure, time}
use Rattle.text.specs.Cells.{band_cell, names_cell, window_cell, chain, both, dots, band, window, member, members, listed, names, cell, entry}
use Rattle.text.specs.Texts.{seven_digits, time_text, band_text, marked_text, names_in, window_text, cell_text, cell_right, entry_text, entry_right}
use Rattle.text.specs.Promises.{entry_form}
use Rattle.text.proofs.FieldTexts.{own, some-under, numbers, measures, times}
use Rattle.text.proofs.Parts.{Free, apart-free, whole}
use Rattle.text.proofs.Spelling.{apart}

some_same : {X : Type 0} (x y : X) → ◌≡◌ {A = Option X} (Some x) (Some y) → x ≡ y
some_same x y e = cc

chain-some : {X Y : Type 0} (o : Option X) (k : X → Option Y) (y : Y) → chain o k ≡ Some y → (x : X) × (o ≡ Some x) × (k x ≡ Some y)
chain-some (Some x) k y e = (x, refl, e)
chain-some None k y e = let z : ◌≡◌ {A = ℕ} 0 1 = cc in absurd (omega arith)

both_some : {X Y : Type 0} (a b : Option X) (f : X → X → Y) (c : Y) → both a b f ≡ Some c → (x : X) × (y : X) × (a ≡ Some x) × (b ≡ Some y) × (f x y ≡ c)
both_some a b f c e =
    let p = chain-some a (λ x. chain b (λ y. Some (f x y))) c e in
    let q = chain-some b (λ y. Some (f p.0 y)) c p.2 in
    (p.0, q.0, p.1, q.1, some_same _ _ q.2)

both-back : {X Y : Type 0} (a b : Option X) (f : X → X → Y) (x y : X) → a ≡ Some x → b ≡ Some y → both a b f ≡ Some (f x y)
both-back a b f x y p q = ap (λ o. chain o (λ x. chain b (λ y. Some (f x y)))) p ∙ ap (λ o. chain o (λ y. Some (f x y))) q

all_join : {X : Type 0} (P : X → Type 0) (xs ys : List X) → AllByRecursion P xs → AllByRecursion P ys → AllByRecursion P (xs ++ ys)
all_join P [] ys a b = b
all_join P (x ∷ xs) ys a b = (a.0, all_join P xs ys a.1 b)

all-weak : {X : Type 0} (P Q : X → Type 0) → ((x : X) → P x → Q x) → (xs : List X) → AllByRecursion P xs → AllByRecursion Q xs
all-weak P Q f [] a = tt
all-weak P Q f (x ∷ xs) a = (f x a.0, all-weak P Q f xs a.1)

-- the bytes of numbers
abbrev Plain : ℕ → Type 0
Plain b = (45 ≤ b) × (b < 58) × (b ≡ 46 → ⊥)

digits_in : (bs : List ℕ) → all_ascii_digits bs ≡ true → AllByRecursion (λ b. (48 ≤ b) × (b < 58)) bs
digits_in [] e = tt
digits_in (b ∷ bs) e =
    let p : (is_ascii_digit b ≡ true) × (all_ascii_digits bs ≡ true) = and_parts _ _ e in
    let h : (48 ≤ b) × (b < 58) = grind (arith, nat_tests) in (h, digits_in bs p.1)

plain-digit : (b : ℕ) → (48 ≤ b) × (b < 58) → Plain b
plain-digit b h = let l = h.0 in (omega arith, h.1, λ e. omega arith)

plain-signed : (z : ℤ) → seven_digits z ≡ true → AllByRecursion Plain (signed_decimal z)
plain-signed (pos n) r =
    let s : n < 10000000 = ltb-true n 10000000 r in
    all-weak (λ b. (48 ≤ b) × (b < 58)) Plain plain-digit (decimal n) (digits_in (decimal n) (digits_decimal own n (omega arith)))
plain-signed (negsuc n) r =
    let s : n < 9999999 = ltb-true n 9999999 r in
    ((omega arith, omega arith, λ e. omega arith), all-weak (λ b. (48 ≤ b) × (b < 58)) Plain plain-digit (decimal (suc n)) (digits_in (decimal (suc n)) (digits_decimal own (suc n) (omega arith))))

-- where a separator stands
up_to-hit : (sep : ℕ) (xs : List ℕ) → up_to sep xs < length xs → get_or xs (up_to sep xs) 0 ≡ sep
up_to-hit sep [] h = absurd (omega arith)
up_to-hit sep (x ∷ xs) h =
    ⊎_elim (λ (t : eqb x sep ≡ true). let z : up_to sep (x ∷ xs) ≡ 0 = cond-true _ _ _ t in ap (λ i. get_or (x ∷ xs) i 0) z ∙ eqb-true x sep t)
    (λ (f : eqb x sep ≡ false). let z : up_to sep (x ∷ xs) ≡ suc (up_to sep xs) = cond-false _ _ _ f in ap (λ i. get_or (x ∷ xs) i 0) z ∙ up_to-hit sep xs (omega arith)) (cases_Bool (eqb x sep))

up_to-at : (sep : ℕ) (f : List ℕ) (g : List ℕ) → Free sep f → up_to sep (f ++ (sep ∷ g)) ≡ length f
up_to-at sep [] g a = cond-true _ _ _ (eq-eqb sep sep refl)
up_to-at sep (b ∷ f) g a = cond-false _ _ _ (ne_eqb b sep a.0) ∙ ap suc (up_to-at sep f g a.1)

split-two : (bs : List ℕ) (d x y : ℕ) → d + 1 < length bs → get_or bs d 0 ≡ x → get_or bs (d + 1) 0 ≡ y → take d bs ++ (x ∷ (y ∷ drop (d + 2) bs)) ≡ bs
split-two bs d x y h p q =
    let k : d + 1 + 1 ≡ d + 2 = omega arith in
    let a : drop d bs ≡ get_or bs d 0 ∷ drop (d + 1) bs = drop_more bs d 0 (omega arith) in
    let b : drop (d + 1) bs ≡ get_or bs (d + 1) 0 ∷ drop (d + 1 + 1) bs = drop_more bs (d + 1) 0 h in
    let e : drop d bs ≡ x ∷ (y ∷ drop (d + 2) bs) =
    a ∙ ap (λ l. get_or bs d 0 ∷ l) b ∙ ap (λ v. v ∷ (get_or bs (d + 1) 0 ∷ drop (d + 1 + 1) bs)) p ∙ ap (λ v. x ∷ (v ∷ drop (d + 1 + 1) bs)) q ∙ ap (λ i. x ∷ (y ∷ drop i bs)) k in
    ap (λ l. take d bs ++ l) (sym e) ∙ take-append-drop d bs

-- bands
band-parts : (inside : Bool) (bs : List ℕ) (c : Cell) → band inside bs ≡ Some c → (low : ℤ) × (high : ℤ) × (band_cell inside low high ≡ c) × (seven_digits low ≡ true) × (seven_digits high ≡ true) × (band_text low high ≡ bs)
band-parts inside bs c e =
    let p = chain-some (dots bs) _ c e in
    let d = p.0 in
    let u = some-under (eqb (get_or bs (up_to 46 bs + 1) 0) 46) (Some (up_to 46 bs)) d p.1 in
    let v : up_to 46 bs ≡ d = some_same _ _ u.1 in
    let y : get_or bs (d + 1) 0 ≡ 46 = ap (λ i. get_or bs (i + 1) 0) (sym v) ∙ eqb-true _ _ u.0 in
    let h : d + 1 < length bs = ⊎_elim (λ (l : d + 1 < length bs). l) (λ (l : length bs ≤ d + 1). let z : ◌≡◌ {A = ℕ} 0 46 = sym (get_or_past bs (d + 1) 0 l) ∙ y in absurd (omega arith)) (cases_lt (d + 1) (length bs)) in
    let x : get_or bs d 0 ≡ 46 = ap (λ i. get_or bs i 0) (sym v) ∙ up_to-hit 46 bs (omega arith) in
    let q = both_some (measure (between 0 d bs)) (measure (between (d + 2) (length bs) bs)) (band_cell inside) c p.2 in
    let lo = measures.same (between 0 d bs) q.0 q.2 in
    let hi = measures.same (between (d + 2) (length bs) bs) q.1 q.3 in
    let k : d - 0 ≡ d = omega arith in (
      q.0,
      q.1,
      q.4,
      lo.0,
      hi.0,
      ap (λ l. l ++ (46 ∷ (46 ∷ signed_decimal q.1))) (lo.1 ∙ ap (λ i. take i bs) k) ∙ ap (λ l. take d bs ++ (46 ∷ (46 ∷ l))) (hi.1 ∙ take_rest bs (d + 2)) ∙ split-two bs d 46 46 h x y,
    )

plain-free : (b : ℕ) → Plain b → b ≡ 46 → ⊥
plain-free b h = h.2

band-back : (inside : Bool) (low high : ℤ) → seven_digits low ≡ true → seven_digits high ≡ true → band inside (band_text low high) ≡ Some (band_cell inside low high)
band-back inside low high r s =
    let f = signed_decimal low in let g = signed_decimal high in let n = length f in
    let bs = band_text low high in
    let u : up_to 46 bs ≡ n = up_to-at 46 f (46 ∷ g) (all-weak Plain (λ b. b ≡ 46 → ⊥) plain-free f (plain-signed low r)) in
    let one : n + 1 - n ≡ 1 = omega arith in
    let y : get_or bs (n + 1) 0 ≡ 46 = get_or-append_right f (46 ∷ (46 ∷ g)) n (n + 1) 0 refl (omega arith) ∙ ap (λ i. get_or (46 ∷ (46 ∷ g)) i 0) one in
    let d : dots bs ≡ Some n = cond-true _ _ _ (eq-eqb _ _ (ap (λ i. get_or bs (i + 1) 0) u ∙ y)) ∙ ap Some u in
    let k : n - 0 ≡ n = omega arith in
    let front : between 0 n bs ≡ f = ap (λ i. take i bs) k ∙ take_at f (46 ∷ (46 ∷ g)) n refl in
    let back : between (n + 2) (length bs) bs ≡ g = take_rest bs (n + 2) ∙ sym (drop-drop 2 n bs) ∙ ap (drop 2) (drop_at f (46 ∷ (46 ∷ g)) n refl) in
    ap (λ o. chain o (λ dot. both (measure (between 0 dot bs)) (measure (between (dot + 2) (length bs) bs)) (band_cell inside))) d
    ∙ both-back _ _ (band_cell inside) low high (ap measure front ∙ measures.back low r) (ap measure back ∙ measures.back high s)

-- windows
window-parts : (bs : List ℕ) (c : Cell) → window bs ≡ Some c → (a : ℕ) × (b : ℕ) × (window_cell a b ≡ c) × (ltb a 1440 ≡ true) × (ltb b 1440 ≡ true) × (window_text a b ≡ bs)
window-parts bs c e =
    let u = some-under (eqb (length bs) 11 && eqb (get_or bs 5 0) 45) (both (time (between 0 5 bs)) (time (between 6 11 bs)) window_cell) c e in
    let t = and_parts (eqb (length bs) 11) (eqb (get_or bs 5 0) 45) u.0 in
    let n : length bs ≡ 11 = eqb-true _ _ t.0 in
    let x : get_or bs 5 0 ≡ 45 = eqb-true _ _ t.1 in
    let q = both_some (time (between 0 5 bs)) (time (between 6 11 bs)) window_cell c u.1 in
    let a = times.same (between 0 5 bs) q.0 q.2 in
    let b = times.same (between 6 11 bs) q.1 q.3 in
    let d : drop 5 bs ≡ get_or bs 5 0 ∷ drop 6 bs = drop_more bs 5 0 (omega arith) in (
      q.0,
      q.1,
      q.4,
      a.0,
      b.0,
      ap (λ l. l ++ (45 ∷ time_text q.1)) a.1 ∙ ap (λ l. take 5 bs ++ (45 ∷ l)) (b.1 ∙ take_all 5 (drop 6 bs) (simp length-drop (omega arith)))
          ∙ ap (λ v. take 5 bs ++ (v ∷ drop 6 bs)) (sym x) ∙ ap (λ l. take 5 bs ++ l) (sym d) ∙ take-append-drop 5 bs,
    )

window-back : (a b : ℕ) → ltb a 1440 ≡ true → ltb b 1440 ≡ true → window (window_text a b) ≡ Some (window_cell a b)
window-back a b r s = both-back _ _ window_cell a b (times.back a r) (times.back b s)

-- names: ascending numbers from `from` on
abbrev Asc : ℕ → List ℕ → Type 0
Asc from [] = Unit {0}
Asc from (n ∷ ns) = (from ≤ n) × (n < 32) × Asc (n + 1) ns

asc-down : (from to : ℕ) (ns : List ℕ) → to ≤ from → Asc from ns → Asc to ns
asc-down from to [] h a = tt
asc-down from to (n ∷ ns) h a = (omega (arith, a.0), a.1, a.2)

-- the set of numbers, counted from `j`
abbrev weigh : ℕ → List ℕ → ℕ
weigh j [] = 0
weigh j (n ∷ ns) = 2 ^ (n - j) + weigh j ns

weigh-double : (j : ℕ) (ns : List ℕ) → Asc (suc j) ns → weigh j ns ≡ 2 * weigh (suc j) ns
weigh-double j [] a = refl
weigh-double j (n ∷ ns) a =
    let h : suc j ≤ n = a.0 in
    let k : n - j ≡ suc (n - suc j) = omega arith in
    let p : 2 ^ (n - j) ≡ 2 ^ (n - suc j) * 2 = ap (λ i. 2 ^ i) k ∙ pow-suc 2 (n - suc j) in
    let r : weigh j ns ≡ 2 * weigh (suc j) ns = weigh-double j ns (asc-down (n + 1) (suc j) ns (omega arith) a.2) in
    omega arith

-- numbers that all lie below a bound
abbrev Under : ℕ → List ℕ → Type 0
Under m ns = AllByRecursion (λ n. n < m) ns

pow-none : (j : ℕ) → 2 ^ (j - j) ≡ 1
pow-none j = let k : j - j ≡ 0 = omega arith in ap (λ i. 2 ^ i) k

-- a set gives the numbers that it was made of
names_of : (k j : ℕ) (ns : List ℕ) → Asc j ns → Under (j + k) ns → names_in k j (weigh j ns) ≡ ns
names_of zero j [] a u = refl
names_of zero j (n ∷ ns) a u = absurd (omega (arith, a.0, u.0))
names_of (suc k) j [] a u = names_of k (suc j) [] tt tt
names_of (suc k) j (n ∷ ns) a u =
    let low = a.0 in
    ⊎_elim (λ (e : n ≤ j).
    let same : n ≡ j = omega arith in
    let rs : Asc (suc j) ns = asc-down (n + 1) (suc j) ns (omega arith) a.2 in
    let us : Under (suc j + k) ns = all-weak (λ m. m < j + suc k) (λ m. m < suc j + k) (λ m l. omega arith) ns u.1 in
    let w : weigh j ns ≡ 2 * weigh (suc j) ns = weigh-double j ns rs in
    let p : 2 ^ (n - j) ≡ 1 = ap (λ i. 2 ^ (i - j)) same ∙ pow-none j in
    let m = weigh j (n ∷ ns) in
    let odd : m % 2 ≡ 1 = omega arith in
    let half : m / 2 ≡ weigh (suc j) ns = omega arith in
    cond-true _ _ _ (eq-eqb _ _ odd) ∙ ap (λ i. j ∷ names_in k (suc j) i) half ∙ ap (λ l. j ∷ l) (names_of k (suc j) ns rs us) ∙ ap (λ i. i ∷ ns) (sym same))
    (λ (e : j < n).
    let rs : Asc (suc j) (n ∷ ns) = (omega arith, a.1, a.2) in
    let us : Under (suc j + k) (n ∷ ns) = all-weak (λ m. m < j + suc k) (λ m. m < suc j + k) (λ m l. omega arith) (n ∷ ns) u in
    let m = weigh j (n ∷ ns) in
    let w : m ≡ 2 * weigh (suc j) (n ∷ ns) = weigh-double j (n ∷ ns) rs in
    let even : m % 2 ≡ 0 = omega arith in
    let half : m / 2 ≡ weigh (suc j) (n ∷ ns) = omega arith in
    cond-false _ _ _ (ne_eqb (m % 2) 1 (λ o. omega arith)) ∙ ap (names_in k (suc j)) half ∙ names_of k (suc j) (n ∷ ns) rs us)
    (⊎_elim (λ (l : j < n). inr l) (λ (l : n ≤ j). inl l) (cases_lt j n))

-- the numbers of a set make it
set-of : (k j set : ℕ) → set < 2 ^ k → j + k ≤ 32 → Asc j (names_in k j set) × (weigh j (names_in k j set) ≡ set)
set-of zero j set h f = (tt, omega arith)
set-of (suc k) j set h f =
    let b = set / 2 in
    let d : 2 ^ suc k ≡ 2 ^ k * 2 = pow-suc 2 k in
    let r = set-of k (suc j) b (omega arith) (omega arith) in
    let l = names_in k (suc j) b in
    let w : weigh j l ≡ 2 * weigh (suc j) l = weigh-double j l r.0 in
    let v : weigh (suc j) l ≡ b = r.1 in
    ⊎_elim (λ (t : eqb (set % 2) 1 ≡ true).
    let o : set % 2 ≡ 1 = eqb-true _ _ t in
    let e : names_in (suc k) j set ≡ j ∷ l = cond-true _ _ _ t in
    let p : 2 ^ (j - j) ≡ 1 = pow-none j in
    subst (λ ns. Asc j ns × (weigh j ns ≡ set)) (sym e) ((omega arith, omega arith, asc-down (suc j) (j + 1) l (omega arith) r.0), omega arith))
    (λ (t : eqb (set % 2) 1 ≡ false).
    let o : set % 2 ≡ 0 = grind (arith, nat_tests) in
    let e : names_in (suc k) j set ≡ l = cond-false _ _ _ t in
    subst (λ ns. Asc j ns × (weigh j ns ≡ set)) (sym e) (asc-down (suc j) j l (omega arith) r.0, omega arith))
    (cases_Bool (eqb (set % 2) 1))

-- names read one by one
member_back : (from n : ℕ) → from ≤ n → n < 32 → member from (decimal n) ≡ Some n
member_back from n low high =
    ap (λ o. chain o (λ n. cond (leb from n && ltb n 32) (Some n) None)) (numbers.back n (lt-ltb n 10000000 (omega arith)))
    ∙ cond-true _ _ _ (and_from _ _ (le-leb from n low) (lt-ltb n 32 high))

member-parts : (from : ℕ) (p : List ℕ) (n : ℕ) → member from p ≡ Some n → (from ≤ n) × (n < 32) × (decimal n ≡ p)
member-parts from p n e =
    let c = chain-some (number p) (λ n. cond (leb from n && ltb n 32) (Some n) None) n e in
    let m = c.0 in
    let u = some-under (leb from m && ltb m 32) (Some m) n c.2 in
    let t : (leb from m ≡ true) × (ltb m 32 ≡ true) = and_parts _ _ u.0 in
    let v : m ≡ n = some_same _ _ u.1 in
    let low : from ≤ m = leb-true _ _ t.0 in
    let high : m < 32 = ltb-true _ _ t.1 in
    (omega arith, omega arith, ap decimal (sym v) ∙ (numbers.same p m c.1).1)

members-back : (ns : List ℕ) (from bits : ℕ) → Asc from ns → members from bits (map decimal ns) ≡ Some (bits + weigh 0 ns)
members-back [] from bits a = let k : bits ≡ bits + 0 = omega arith in ap Some k
members-back (n ∷ ns) from bits a =
    let k : bits + 2 ^ n + weigh 0 ns ≡ bits + (2 ^ (n - 0) + weigh 0 ns) = let z : n - 0 ≡ n = omega arith in let p : 2 ^ (n - 0) ≡ 2 ^ n = ap (λ i. 2 ^ i) z in omega arith in
    ap (λ o. chain o (λ n. members (n + 1) (bits + 2 ^ n) (map decimal ns))) (member_back from n a.0 a.1)
    ∙ members-back ns (n + 1) (bits + 2 ^ n) a.2 ∙ ap Some k

members-parts : (ps : List (List ℕ)) (from bits m : ℕ) → members from bits ps ≡ Some m → (ns : List ℕ) × Asc from ns × (map decimal ns ≡ ps) × (m ≡ bits + weigh 0 ns)
members-parts [] from bits m e = let k : bits ≡ m = some_same _ _ e in ([], tt, refl, omega arith)
members-parts (p ∷ ps) from bits m e =
    let c = chain-some (member from p) (λ n. members (n + 1) (bits + 2 ^ n) ps) m e in
    let n = c.0 in
    let w = member-parts from p n c.1 in
    let r = members-parts ps (n + 1) (bits + 2 ^ n) m c.2 in
    let z : n - 0 ≡ n = omega arith in
    let q : 2 ^ (n - 0) ≡ 2 ^ n = ap (λ i. 2 ^ i) z in
    let y : m ≡ bits + 2 ^ n + weigh 0 r.0 = r.3 in
    (n ∷ r.0, (w.0, w.1, r.1), ap (λ l. l ∷ map decimal r.0) w.2 ∙ ap (λ l. p ∷ l) r.2, omega arith)

asc-under : (from : ℕ) (ns : List ℕ) → Asc from ns → Under 32 ns
asc-under from [] a = tt
asc-under from (n ∷ ns) a = (a.1, asc-under (n + 1) ns a.2)

weigh-below : (k j : ℕ) (ns : List ℕ) → Asc j ns → Under (j + k) ns → weigh j ns < 2 ^ k
weigh-below zero j [] a u = omega arith
weigh-below zero j (n ∷ ns) a u = absurd (omega (arith, a.0, u.0))
weigh-below (suc k) j [] a u = let d : 2 ^ suc k ≡ 2 ^ k * 2 = pow-suc 2 k in let r = weigh-below k (suc j) [] tt tt in omega arith
weigh-below (suc k) j (n ∷ ns) a u =
    let low = a.0 in
    let d : 2 ^ suc k ≡ 2 ^ k * 2 = pow-suc 2 k in
    ⊎_elim (λ (e : j < n).
    let rs : Asc (suc j) (n ∷ ns) = (omega arith, a.1, a.2) in
    let us : Under (suc j + k) (n ∷ ns) = all-weak (λ m. m < j + suc k) (λ m. m < suc j + k) (λ m l. omega arith) (n ∷ ns) u in
    let w : weigh j (n ∷ ns) ≡ 2 * weigh (suc j) (n ∷ ns) = weigh-double j (n ∷ ns) rs in
    let r : weigh (suc j) (n ∷ ns) < 2 ^ k = weigh-below k (suc j) (n ∷ ns) rs us in omega arith)
    (λ (e : n ≤ j).
    let same : n ≡ j = omega arith in
    let rs : Asc (suc j) ns = asc-down (n + 1) (suc j) ns (omega arith) a.2 in
    let us : Under (suc j + k) ns = all-weak (λ m. m < j + suc k) (λ m. m < suc j + k) (λ m l. omega arith) ns u.1 in
    let w : weigh j ns ≡ 2 * weigh (suc j) ns = weigh-double j ns rs in
    let r : weigh (suc j) ns < 2 ^ k = weigh-below k (suc j) ns rs us in
    let p : 2 ^ (n - j) ≡ 1 = ap (λ i. 2 ^ (i - j)) same ∙ pow-none j in omega arith)
    (cases_lt j n)

-- sets in braces
decimal-in : (n : ℕ) → n < 2 ^ 64 → AllByRecursion (λ b. (48 ≤ b) × (b < 58)) (decimal n)
decimal-in n h = digits_in (decimal n) (digits_decimal own n h)

free-comma : (b : ℕ) → (48 ≤ b) × (b < 58) → b ≡ 44 → ⊥
free-comma b h e = omega (arith, h.0)

frees-comma : (from : ℕ) (ns : List ℕ) → Asc from ns → AllByRecursion (Free 44) (map decimal ns)
frees-comma from [] a = tt
frees-comma from (n ∷ ns) a = (all-weak (λ b. (48 ≤ b) × (b < 58)) (λ b. b ≡ 44 → ⊥) free-comma (decimal n) (decimal-in n (omega (arith, a.1))), frees-comma (n + 1) ns a.2)

listed_back : (ns : List ℕ) → Asc 0 ns → listed (rejoined 44 (map decimal ns)) ≡ Some (weigh 0 ns)
listed_back [] a = refl
listed_back (n ∷ ns) a =
    let bs = rejoined 44 (map decimal (n ∷ ns)) in
    let f = frees-comma 0 (n ∷ ns) a in
    let l : 0 < length (decimal n) = decimal_nonempty n (omega (arith, a.1)) in
    let t = length-append (decimal n) (followed 44 (map decimal ns)) in
    let k : 0 + weigh 0 (n ∷ ns) ≡ weigh 0 (n ∷ ns) = omega arith in
    cond-false _ _ _ (ne_eqb (length bs) 0 (λ e. omega arith)) ∙ ap (members 0 0) (apart-free 44 (decimal n) (map decimal ns) f.0 f.1) ∙ members-back (n ∷ ns) 0 0 a ∙ ap Some k

listed-parts : (bs : List ℕ) (set : ℕ) → listed bs ≡ Some set → (ns : List ℕ) × Asc 0 ns × (rejoined 44 (map decimal ns) ≡ bs) × (set ≡ weigh 0 ns)
listed-parts bs set e =
    ⊎_elim (λ (t : eqb (length bs) 0 ≡ true).
    let z : 0 ≡ set = some_same _ _ (sym (cond-true _ _ _ t) ∙ e) in
    ([], tt, sym (nil_from_length bs (eqb-true _ _ t)), sym z))
    (λ (t : eqb (length bs) 0 ≡ false).
    let r = members-parts (parted 44 bs) 0 0 set (sym (cond-false _ _ _ t) ∙ e) in
    let v : set ≡ 0 + weigh 0 r.0 = r.3 in
    (r.0, r.1, ap (rejoined 44) r.2 ∙ whole 44 bs, omega arith))
    (cases_Bool (eqb (length bs) 0))

abbrev inner : ℕ → List ℕ
inner set = rejoined 44 (map decimal (names_in 32 0 set))

names-braced : (f : List ℕ) (set : ℕ) → listed f ≡ Some set → names (f ++ (125 ∷ [])) ≡ Some (names_cell set)
names-braced f set r =
    let bs = f ++ (125 ∷ []) in let n = length f in
    let l : length bs - 1 ≡ n = omega (arith, length-append f (125 ∷ [])) in
    let x : get_or bs (length bs - 1) 0 ≡ 125 = ap (λ i. get_or bs i 0) l ∙ get_or_at f 125 [] 0 n refl in
    let k : n - 0 ≡ n = omega arith in
    let b : between 0 (length bs - 1) bs ≡ f = ap (λ i. between 0 i bs) l ∙ ap (λ i. take i bs) k ∙ take_at f (125 ∷ []) n refl in
    cond-true _ _ _ (eq-eqb _ _ x) ∙ ap (λ t. chain (listed t) (λ s. Some (names_cell s))) b ∙ ap (λ o. chain o (λ s. Some (names_cell s))) r

names-back : (set : ℕ) → set < 4294967296 → names (inner set ++ (125 ∷ [])) ≡ Some (names_cell set)
names-back set h =
    let r = set-of 32 0 set (omega arith) (omega arith) in
    names-braced (inner set) set (listed_back (names_in 32 0 set) r.0 ∙ ap Some r.1)

names-parts : (bs : List ℕ) (c : Cell) → names bs ≡ Some c → (set : ℕ) × (names_cell set ≡ c) × (set < 4294967296) × (inner set ++ (125 ∷ []) ≡ bs)
names-parts bs c e =
    let u = some-under (eqb (get_or bs (length bs - 1) 0) 125) (chain (listed (between 0 (length bs - 1) bs)) (λ s. Some (names_cell s))) c e in
    let x : get_or bs (length bs - 1) 0 ≡ 125 = eqb-true _ _ u.0 in
    let h : length bs - 1 < length bs = ⊎_elim (λ (l : length bs - 1 < length bs). l) (λ (l : length bs ≤ length bs - 1). let z : ◌≡◌ {A = ℕ} 0 125 = sym (get_or_past bs (length bs - 1) 0 l) ∙ x in absurd (omega arith)) (cases_lt (length bs - 1) (length bs)) in
    let q = chain-some (listed (between 0 (length bs - 1) bs)) (λ s. Some (names_cell s)) c u.1 in
    let p = listed-parts (between 0 (length bs - 1) bs) q.0 q.1 in
    let ns = p.0 in
    let m : names_in 32 0 q.0 ≡ ns = ap (names_in 32 0) p.3 ∙ names_of 32 0 ns p.1 (asc-under 0 ns p.1) in
    let v : q.0 ≡ weigh 0 ns = p.3 in
    let small : weigh 0 ns < 2 ^ 32 = weigh-below 32 0 ns p.1 (asc-under 0 ns p.1) in
    let k : length bs - 1 - 0 ≡ length bs - 1 = omega arith in
    let d : drop (length bs - 1) bs ≡ get_or bs (length bs - 1) 0 ∷ drop (length bs - 1 + 1) bs = drop_more bs (length bs - 1) 0 h in (
      q.0,
      some_same _ _ q.2,
      omega arith,
      ap (λ l. rejoined 44 (map decimal l) ++ (125 ∷ [])) m ∙ ap (λ l. l ++ (125 ∷ [])) (p.2 ∙ ap (λ i. take i bs) k)
          ∙ ap (λ l. take (length bs - 1) bs ++ l) (sym (d ∙ ap (λ b. b ∷ drop (length bs - 1 + 1) bs) x ∙ ap (λ l. 125 ∷ l) (drop_all (length bs - 1 + 1) bs (omega arith)))) ∙ take-append-drop (length bs - 1) bs,
    )

-- all bytes of a cell lie above the space
over : (b : ℕ) → (48 ≤ b) × (b < 58) → 32 < b
over b h = omega (arith, h.0)

follow-solid : (from : ℕ) (ns : List ℕ) → Asc from ns → AllByRecursion (λ b. 32 < b) (followed 44 (map decimal ns))
follow-solid from [] a = tt
follow-solid from (n ∷ ns) a = (omega arith, all_join (λ b. 32 < b) (decimal n) (followed 44 (map decimal ns)) (all-weak _ (λ b. 32 < b) over (decimal n) (decimal-in n (omega (arith, a.1)))) (follow-solid (n + 1) ns a.2))

inner-solid : (ns : List ℕ) → Asc 0 ns → AllByRecursion (λ b. 32 < b) (rejoined 44 (map decimal ns))
inner-solid [] a = tt
inner-solid (n ∷ ns) a = all_join (λ b. 32 < b) (decimal n) (followed 44 (map decimal ns)) (all-weak _ (λ b. 32 < b) over (decimal n) (decimal-in n (omega (arith, a.1)))) (follow-solid (n + 1) ns a.2)

-- the bytes of a band
abbrev Banded : ℕ → Type 0
Banded b = (45 ≤ b) × (b < 58)

band-bytes : (low high : ℤ) → seven_digits low ≡ true → seven_digits high ≡ true → AllByRecursion Banded (band_text low high)
band-bytes low high r s =
    let f : (b : ℕ) → Plain b → Banded b = λ b h. (h.0, h.1) in
    all_join Banded (signed_decimal low) (46 ∷ (46 ∷ signed_decimal high)) (all-weak Plain Banded f (signed_decimal low) (plain-signed low r))
    ((omega arith, omega arith), ((omega arith, omega arith), all-weak Plain Banded f (signed_decimal high) (plain-signed high s)))

band-solid : (low high : ℤ) → seven_digits low ≡ true → seven_digits high ≡ true → AllByRecursion (λ b. 32 < b) (band_text low high)
band-solid low high r s = all-weak Banded (λ b. 32 < b) (λ b h. omega (arith, h.0)) (band_text low high) (band-bytes low high r s)

marked-solid : (inside : Bool) (low high : ℤ) → seven_digits low ≡ true → seven_digits high ≡ true → AllByRecursion (λ b. 32 < b) (marked_text inside low high)
marked-solid true low high r s = band-solid low high r s
marked-solid false low high r s = (omega arith, band-solid low high r s)

cell-solid : (c : Cell) → cell_right c ≡ true → AllByRecursion (λ b. 32 < b) (cell_text c)
cell-solid (Left c) r = let p = and_parts (seven_digits c.lo) (seven_digits c.hi) r in marked-solid c.inside c.lo c.hi p.0 p.1
cell-solid (Right (Left c)) r =
    let set = c.bits in
    let h : set < 4294967296 = ltb-true _ _ r in
    (omega arith, all_join (λ b. 32 < b) (inner set) (125 ∷ []) (inner-solid (names_in 32 0 set) (set-of 32 0 set (omega arith) (omega arith)).0) (omega arith, tt))
cell-solid (Right (Right c)) r =
    let a = c.start in let b = c.end in
    let p = and_parts (ltb a 1440) (ltb b 1440) r in
    all_join (λ b. 32 < b) (time_text a) (45 ∷ time_text b) (times.solid (time_text a) a (times.back a p.0)) (omega arith, times.solid (time_text b) b (times.back b p.1))

-- the byte at a place, of a text with such bytes
banded-at : (bs : List ℕ) (i : ℕ) → AllByRecursion Banded bs → i < length bs → Banded (get_or bs i 0)
banded-at [] i a h = absurd (omega arith)
banded-at (b ∷ bs) zero a h = a.0
banded-at (b ∷ bs) (suc i) a h = banded-at bs i a.1 (omega arith)

banded-not : (bs : List ℕ) (i x : ℕ) → AllByRecursion Banded bs → i < length bs ⊎ (length bs ≤ i) → 57 < x → get_or bs i 0 ≡ x → ⊥
banded-not bs i x a (inl l) h e = omega (arith, (banded-at bs i a l).1)
banded-not bs i x a (inr l) h e = omega (arith, get_or_past bs i 0 l)

-- cells by their bytes
abbrev OfCell : List ℕ → Cell → Type 0
OfCell bs c = (cell_right c ≡ true) × (cell_text c ≡ bs)

cell-bang : (bs : List ℕ) (c : Cell) → band false (between 1 (length (33 ∷ bs)) (33 ∷ bs)) ≡ Some c → OfCell (33 ∷ bs) c
cell-bang bs c e =
    let p = band-parts false bs c (sym (ap (band false) (take_rest (33 ∷ bs) 1)) ∙ e) in
    subst (OfCell (33 ∷ bs)) p.2 (and_from _ _ p.3 p.4, ap (λ l. 33 ∷ l) p.5)

cell-brace : (bs : List ℕ) (c : Cell) → names (between 1 (length (123 ∷ bs)) (123 ∷ bs)) ≡ Some c → OfCell (123 ∷ bs) c
cell-brace bs c e =
    let p = names-parts bs c (sym (ap names (take_rest (123 ∷ bs) 1)) ∙ e) in
    subst (OfCell (123 ∷ bs)) p.1 (lt-ltb p.0 4294967296 p.2, ap (λ l. 123 ∷ l) p.3)

cell-window : (bs : List ℕ) (c : Cell) → window bs ≡ Some c → OfCell bs c
cell-window bs c e = let p = window-parts bs c e in subst (OfCell bs) p.2 (and_from _ _ p.3 p.4, p.5)

cell-inside : (bs : List ℕ) (c : Cell) → band true bs ≡ Some c → OfCell bs c
cell-inside bs c e = let p = band-parts true bs c e in subst (OfCell bs) p.2 (and_from _ _ p.3 p.4, p.5)

-- a test that takes one of two ways
either_way : {X : Type 0} (t : Bool) (a b : Option X) (x : X) (P : Type 0) → cond t a b ≡ Some x → (t ≡ true → a ≡ Some x → P) → (t ≡ false → b ≡ Some x → P) → P
either_way true a b x P e f g = f refl e
either_way false a b x P e f g = g refl e

cell_same : (bs : List ℕ) (c : Cell) → cell bs ≡ Some c → OfCell bs c
cell_same [] c e = let z : ◌≡◌ {A = ℕ} 0 1 = cc in absurd (omega arith)
cell_same (b ∷ bs) c e =
    either_way (eqb b 33) _ _ c (OfCell (b ∷ bs) c) e
    (λ t s. let h : b ≡ 33 = eqb-true _ _ t in subst (λ v. band false (between 1 (length (v ∷ bs)) (v ∷ bs)) ≡ Some c → OfCell (v ∷ bs) c) (sym h) (cell-bang bs c) s)
    (λ t s. either_way (eqb b 123) _ _ c (OfCell (b ∷ bs) c) s
    (λ t s. let h : b ≡ 123 = eqb-true _ _ t in subst (λ v. names (between 1 (length (v ∷ bs)) (v ∷ bs)) ≡ Some c → OfCell (v ∷ bs) c) (sym h) (cell-brace bs c) s)
    (λ t s. either_way (eqb (get_or (b ∷ bs) 2 0) 58) _ _ c (OfCell (b ∷ bs) c) s (λ t s. cell-window (b ∷ bs) c s) (λ t s. cell-inside (b ∷ bs) c s)))

marked-back : (inside : Bool) (low high : ℤ) → seven_digits low ≡ true → seven_digits high ≡ true → cell (marked_text inside low high) ≡ Some (band_cell inside low high)
marked-back false low high r s = ap (band false) (take_rest (33 ∷ band_text low high) 1) ∙ band-back false low high r s
marked-back true low high r s =
    let bs = band_text low high in
    let a = band-bytes low high r s in
    let l = length-append (signed_decimal low) (46 ∷ (46 ∷ signed_decimal high)) in
    let f = banded-at bs 0 a (omega arith) in
    let f0 = f.0 in
    let f1 = f.1 in
    cond-false _ _ _ (ne_eqb (get_or bs 0 0) 33 (λ e. omega arith)) ∙ cond-false _ _ _ (ne_eqb (get_or bs 0 0) 123 (λ e. omega arith))
    ∙ cond-false _ _ _ (ne_eqb (get_or bs 2 0) 58 (banded-not bs 2 58 a (cases_lt 2 (length bs)) (omega arith))) ∙ band-back true low high r s

cell-back : (c : Cell) → cell_right c ≡ true → cell (cell_text c) ≡ Some c
cell-back (Left c) r = let p = and_parts (seven_digits c.lo) (seven_digits c.hi) r in marked-back c.inside c.lo c.hi p.0 p.1
cell-back (Right (Left c)) r = ap names (take_rest (123 ∷ (inner c.bits ++ (125 ∷ []))) 1) ∙ names-back c.bits (ltb-true _ _ r)
cell-back (Right (Right c)) r =
    let a = c.start in let b = c.end in
    let p = and_parts (ltb a 1440) (ltb b 1440) r in
    let h : a < 1440 = ltb-true _ _ p.0 in
    let x : ℕ = 48 + a / 60 / 10 % 10 in
    let y : x < 60 = omega arith in
    cond-false _ _ _ (ne_eqb x 33 (λ e. omega arith)) ∙ cond-false _ _ _ (ne_eqb x 123 (λ e. omega arith)) ∙ window-back a b p.0 p.1

-- entries
entry-back : (e : Entry Cell) → entry_right e ≡ true → entry (entry_text e) ≡ Some e
entry-back Any r = refl
entry-back (CellE c) r =
    let b = cell-back c r in
    let no : cell_text c ≡ codes "." → ⊥ = λ h. let z : cell (codes ".") ≡ Some c = ap cell (sym h) ∙ b in let q : ◌≡◌ {A = ℕ} 0 1 = cc in omega arith in
    cond-false _ _ _ (sym (apart (cell_text c) (codes ".") no)) ∙ ap (λ o. chain o (λ c. Some (CellE c))) b

entry-same : (bs : List ℕ) (e : Entry Cell) → entry bs ≡ Some e → (entry_right e ≡ true) × (entry_text e ≡ bs)
entry-same bs e h =
    either_way (bytes_eq bs (codes ".")) _ _ e ((entry_right e ≡ true) × (entry_text e ≡ bs)) h
    (λ t s. subst (λ v. (entry_right v ≡ true) × (entry_text v ≡ bs)) (some_same Any e s) (refl, sym ((bytes_eq-Decides bs (codes ".")).0 t)))
    (λ t s. let p = chain-some (cell bs) (λ c. Some (CellE c)) e s in
    subst (λ v. (entry_right v ≡ true) × (entry_text v ≡ bs)) (some_same _ _ p.2) (cell_same bs p.0 p.1))

entry-solid : (e : Entry Cell) → entry_right e ≡ true → AllByRecursion (λ b. 32 < b) (entry_text e)
entry-solid Any r = (omega arith, tt)
entry-solid (CellE c) r = cell-solid c r

pub entries-faithful : Faithful entry_form
entries-faithful = record { back = entry-back; same = entry-same; solid = λ bs e h. let p = entry-same bs e h in subst (λ l. AllByRecursion (λ b. 32 < b) l) p.1 (entry-solid e p.0) }
