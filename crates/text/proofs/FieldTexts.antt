-- Fields: what is written of a value reads back, and what was read is written back.
use Rattle.std.proofs.Common.{◌≡◌, ℕ, suc, ◌+◌, ◌-◌, ◌*◌, ◌/◌, ◌%◌, ◌^◌, ◌<◌, ◌≤◌, Bool, true, false, cond, not, ◌&&◌, ◌||◌, eqb, ltb, leb, List, [], ◌∷◌, ◌++◌, length, get_or, ℤ, pos, negsuc, Some, None, decimal, Option, sym, refl, ap, ◌∙◌, subst, ⊎_elim, arith, rules}
use Rattle.std.specs.Str.{all_ascii_digits, bytes_eq}
use Rattle.std.specs.List.{AllByRecursion}
use Rattle.std.specs.Char.{is_ascii_digit}
use Rattle.std.specs.Fmt.{signed_decimal}
use Rattle.std.proofs.lemmas.Slice.Eq.{bytes_eq-Decides}
use Rattle.std.proofs.lemmas.Str.Parse.{IsNumeralModel, numerals_by_fold, digits_value_short}
use Rattle.std.proofs.lemmas.Fmt.{digits_decimal, digits_value-decimal, length-decimal-le, decimal_nonempty, first_decimal, decimal_digit, decimal-digits_value}
use Rattle.std.proofs.lemmas.Bool.{cond-true, cond-false, ne_eqb, and_from, and_parts, ltb-true, leb-true, eqb-true, lt-ltb, le-leb, cases_lt, cases_Bool}
use Rattle.std.proofs.lemmas.Bool.Decides.{nat_tests}
use Rattle.joined.specs.declared.Either.TheVariants.{Left, Right}
use Rattle.house.specs.House.{Value}
use Rattle.items.specs.declared.Mode.{Mode}
use Rattle.items.specs.declared.Mode.TheVariants.{A, B, Both, Either, Pair}
use Rattle.text.specs.Forms.{Faithful}
use Rattle.text.specs.Numbers.{value_after, numeral, number, below, above, measure, figures, minutes, time}
use Rattle.text.specs.Words.{worded, modes, mode, kinds, kind, first_words, first_word, measure_value, name_value, minute_value, each, value}
use Rattle.text.specs.Texts.{seven_digits, two_digits, mode_text, kind_text, word_text, value_right, value_text, kind_of}
use Rattle.text.specs.Promises.{number_form, measure_form, mode_form, kind_form, word_form, time_form, value_form}
use Rattle.text.specs.declared.types.KindWord.{KindWord}
use Rattle.text.specs.declared.types.KindWord.TheVariants.{Measure, Names, Clock}
use Rattle.text.specs.declared.types.Word.{Word}
use Rattle.text.specs.declared.types.Word.TheVariants.{Flight, Pair as PairW, Row as RowW, Column, Never, Default, End}

pub own : IsNumeralModel (λ ds. all_ascii_digits ds ≡ true) (value_after 0)
own = numerals_by_fold _ (search rules) value_after (search rules)

-- a `Some` under a test
pub some-under : {X : Type 0} (b : Bool) (o : Option X) (x : X) → cond b o None ≡ Some x → (b ≡ true) × (o ≡ Some x)
some-under true o x e = (refl, e)
some-under false o x e = let z : ◌≡◌ {A = ℕ} 0 1 = cc in absurd (omega arith)

pub digits-solid : (bs : List ℕ) → all_ascii_digits bs ≡ true → AllByRecursion (λ b. 32 < b) bs
digits-solid [] e = tt
digits-solid (b ∷ bs) e =
    let p : (is_ascii_digit b ≡ true) × (all_ascii_digits bs ≡ true) = and_parts _ _ e in
    let h : 32 < b = grind (arith, nat_tests) in (h, digits-solid bs p.1)

number-back : (n : ℕ) → ltb n 10000000 ≡ true → number (decimal n) ≡ Some n
number-back n r =
    let small : n < 10000000 = ltb-true n 10000000 r in
    let d = decimal n in
    let a : all_ascii_digits d ≡ true = digits_decimal own n (omega arith) in
    let l : 0 < length d = decimal_nonempty n (omega arith) in
    let k : length d ≤ 7 = length-decimal-le 7 n (omega arith) small (omega arith) in
    let z : (leb (length d) 1 || not (eqb (get_or d 0 0) 48)) ≡ true =
    ⊎_elim (λ (some : 0 < n). let f : 48 < get_or d 0 0 = first_decimal n some (omega arith) in grind (arith, nat_tests))
    (λ (zero : n ≤ 0). let o : length d ≡ 1 = ap length (decimal_digit n (omega arith)) in grind (arith, nat_tests)) (cases_lt 0 n) in
    cond-true _ _ _ (and_from _ _ a (and_from _ _ (lt-ltb 0 (length d) l) (and_from _ _ (le-leb (length d) 7 k) z)))
    ∙ ap Some (digits_value-decimal own n (omega arith))

-- what a numeral is
numeral-parts : (bs : List ℕ) → numeral bs ≡ true → (all_ascii_digits bs ≡ true) × (0 < length bs) × (length bs ≤ 7) × (get_or bs 0 0 ≡ 48 → length bs ≡ 1)
numeral-parts bs e =
    let p : (all_ascii_digits bs ≡ true) × ((ltb 0 (length bs) && (leb (length bs) 7 && (leb (length bs) 1 || not (eqb (get_or bs 0 0) 48)))) ≡ true) = and_parts _ _ e in
    let q : (ltb 0 (length bs) ≡ true) × ((leb (length bs) 7 && (leb (length bs) 1 || not (eqb (get_or bs 0 0) 48))) ≡ true) = and_parts _ _ p.1 in
    let s : (leb (length bs) 7 ≡ true) × ((leb (length bs) 1 || not (eqb (get_or bs 0 0) 48)) ≡ true) = and_parts _ _ q.1 in
    (p.0, ltb-true _ _ q.0, leb-true _ _ s.0, λ z. grind (arith, nat_tests))

number_same : (bs : List ℕ) (n : ℕ) → number bs ≡ Some n → (ltb n 10000000 ≡ true) × (decimal n ≡ bs)
number_same bs n e =
    let u = some-under (numeral bs) (Some (value_after 0 bs)) n e in
    let p = numeral-parts bs u.0 in
    let v : value_after 0 bs ≡ n = grind arith in
    let small : value_after 0 bs < 10 ^ 7 = digits_value_short own bs 7 p.0 p.2 in
    (lt-ltb n 10000000 (omega arith), ap decimal (sym v) ∙ decimal-digits_value own bs p.0 p.1 p.3 (omega arith))

number-solid : (bs : List ℕ) (n : ℕ) → number bs ≡ Some n → AllByRecursion (λ b. 32 < b) bs
number-solid bs n e = digits-solid bs (numeral-parts bs (some-under (numeral bs) (Some (value_after 0 bs)) n e).0).0

pub numbers : Faithful number_form
numbers = record { back = number-back; same = number_same; solid = number-solid }

-- words
worded-is : {X : Type 0} (P : List ℕ → X → Type 0) (table : List (List ℕ × X)) → AllByRecursion (λ p. P p.0 p.1) table → (bs : List ℕ) (x : X) → worded table bs ≡ Some x → P bs x
worded-is P [] a bs x e = let z : ◌≡◌ {A = ℕ} 0 1 = cc in absurd (omega arith)
worded-is P (p ∷ ps) a bs x e =
    ⊎_elim (λ (t : bytes_eq bs p.0 ≡ true).
    let s : Some p.1 ≡ Some x = sym (cond-true _ _ _ t) ∙ e in
    let v : p.1 ≡ x = cc in
    let w : bs ≡ p.0 = (bytes_eq-Decides bs p.0).0 t in
    subst (λ y. P bs y) v (subst (λ l. P l p.1) (sym w) a.0))
    (λ (f : bytes_eq bs p.0 ≡ false). worded-is P ps a.1 bs x (sym (cond-false _ _ _ f) ∙ e)) (cases_Bool (bytes_eq bs p.0))

-- a form whose words stand in a table
pub tabled : {X : Type 0} (text : X → List ℕ) (table : List (List ℕ × X)) → ((x : X) → worded table (text x) ≡ Some x) → AllByRecursion (λ p. (text p.1 ≡ p.0) × AllByRecursion (λ b. 32 < b) p.0) table → Faithful (record { right = λ x. true; text = text; read = worded table })
tabled text table back a = record {
  back = λ x r. back x;
  same = λ bs x e. (refl, (worded-is (λ l y. (text y ≡ l) × AllByRecursion (λ b. 32 < b) l) table a bs x e).0);
  solid = λ bs x e. (worded-is (λ l y. (text y ≡ l) × AllByRecursion (λ b. 32 < b) l) table a bs x e).1;
}

mode-back : (m : Mode) → mode (mode_text m) ≡ Some m
mode-back A = refl
mode-back B = refl
mode-back Both = refl
mode-back Either = refl
mode-back Pair = refl

pub modes-faithful : Faithful mode_form
modes-faithful = tabled mode_text modes mode-back (search rules)

kind-back : (k : KindWord) → kind (kind_text k) ≡ Some k
kind-back Measure = refl
kind-back Names = refl
kind-back Clock = refl

pub kinds-faithful : Faithful kind_form
kinds-faithful = tabled kind_text kinds kind-back (search rules)

word_back : (w : Word) → first_word (word_text w) ≡ Some w
word_back Flight = refl
word_back PairW = refl
word_back RowW = refl
word_back Column = refl
word_back Never = refl
word_back Default = refl
word_back End = refl

pub words-faithful : Faithful word_form
words-faithful = tabled word_text first_words word_back (search rules)

-- measures
first-digit : (bs : List ℕ) → all_ascii_digits bs ≡ true → 0 < length bs → 48 ≤ get_or bs 0 0
first-digit [] e h = omega arith
first-digit (b ∷ bs) e h = let p : (is_ascii_digit b ≡ true) × (all_ascii_digits bs ≡ true) = and_parts _ _ e in grind (arith, nat_tests)

measure-back : (z : ℤ) → seven_digits z ≡ true → measure (signed_decimal z) ≡ Some z
measure-back (pos n) r =
    let small : n < 10000000 = ltb-true n 10000000 r in
    let f : 48 ≤ get_or (decimal n) 0 0 = first-digit (decimal n) (digits_decimal own n (omega arith)) (decimal_nonempty n (omega arith)) in
    cond-false _ _ _ (ne_eqb (get_or (decimal n) 0 0) 45 (omega arith)) ∙ ap above (number-back n r)
measure-back (negsuc n) r =
    let small : n < 9999999 = ltb-true n 9999999 r in
    ap below (number-back (suc n) (lt-ltb (suc n) 10000000 (omega arith))) ∙ cond-false _ _ _ (ne_eqb (suc n) 0 (omega arith)) ∙ ap (λ m. Some (negsuc m)) (omega arith)

below-some : (o : Option ℕ) (z : ℤ) → below o ≡ Some z → (n : ℕ) × (o ≡ Some n) × (0 < n) × (z ≡ negsuc (n - 1))
below-some (Some n) z e = (n, refl, grind (arith, nat_tests), grind (arith, nat_tests))
below-some None z e = let q : ◌≡◌ {A = ℕ} 0 1 = cc in absurd (omega arith)

above-some : (o : Option ℕ) (z : ℤ) → above o ≡ Some z → (n : ℕ) × (o ≡ Some n) × (z ≡ pos n)
above-some (Some n) z e = (n, refl, cc)
above-some None z e = let q : ◌≡◌ {A = ℕ} 0 1 = cc in absurd (omega arith)

-- what a measure's field is: digits, or a minus and digits
measure-parts : (bs : List ℕ) (z : ℤ) → measure bs ≡ Some z → (seven_digits z ≡ true) × (signed_decimal z ≡ bs) × AllByRecursion (λ b. 32 < b) bs
measure-parts [] z e = let q : ◌≡◌ {A = ℕ} 0 1 = cc in absurd (omega arith)
measure-parts (b ∷ bs) z e =
    ⊎_elim (λ (t : eqb b 45 ≡ true).
    let g = below-some (number bs) z (sym (cond-true _ _ _ t) ∙ e) in
    let n = g.0 in
    let w = number_same bs n g.1 in
    let h : b ≡ 45 = eqb-true b 45 t in
    let small : n < 10000000 = ltb-true n 10000000 w.0 in
    let k : suc (n - 1) ≡ n = omega (arith, g.2) in (
      ap seven_digits g.3 ∙ lt-ltb (n - 1) 9999999 (omega (arith, g.2)),
      ap signed_decimal g.3 ∙ ap (λ m. 45 ∷ decimal m) k ∙ ap (λ l. 45 ∷ l) w.1 ∙ ap (λ x. x ∷ bs) (sym h),
      (omega arith, number-solid bs n g.1),
    ))
    (λ (f : eqb b 45 ≡ false).
    let g = above-some (number (b ∷ bs)) z (sym (cond-false _ _ _ f) ∙ e) in
    let w = number_same (b ∷ bs) g.0 g.1 in
    (ap seven_digits g.2 ∙ w.0, ap signed_decimal g.2 ∙ w.1, number-solid (b ∷ bs) g.0 g.1))
    (cases_Bool (eqb b 45))

pub measures : Faithful measure_form
measures = record { back = measure-back; same = λ bs z e. ((measure-parts bs z e).0, (measure-parts bs z e).1); solid = λ bs z e. (measure-parts bs z e).2 }

-- times
figures-some : (bs : List ℕ) (n : ℕ) → figures bs ≡ Some n → (all_ascii_digits bs ≡ true) × (value_after 0 bs ≡ n)
figures-some bs n e = let u = some-under (all_ascii_digits bs) (Some (value_after 0 bs)) n e in (u.0, grind arith)

minutes-some : (h m : Option ℕ) (t : ℕ) → minutes h m ≡ Some t → (a : ℕ) × (b : ℕ) × (h ≡ Some a) × (m ≡ Some b) × (a < 24) × (b < 60) × (t ≡ 60 * a + b)
minutes-some (Some a) (Some b) t e = (a, b, refl, refl, grind (arith, nat_tests), grind (arith, nat_tests), grind (arith, nat_tests))
minutes-some (Some a) None t e = let q : ◌≡◌ {A = ℕ} 0 1 = cc in absurd (omega arith)
minutes-some None (Some b) t e = let q : ◌≡◌ {A = ℕ} 0 1 = cc in absurd (omega arith)
minutes-some None None t e = let q : ◌≡◌ {A = ℕ} 0 1 = cc in absurd (omega arith)

-- two digits and their value
two_back : (n : ℕ) → n < 100 → figures (two_digits n) ≡ Some n
two_back n h =
    let a : 48 + n / 10 % 10 ≤ 57 = omega arith in
    let b : 48 + n % 10 ≤ 57 = omega arith in
    let d : all_ascii_digits (two_digits n) ≡ true = and_from _ _ (and_from _ _ (le-leb 48 (48 + n / 10 % 10) (omega arith)) (le-leb _ _ a)) (and_from _ _ (and_from _ _ (le-leb 48 (48 + n % 10) (omega arith)) (le-leb _ _ b)) refl) in
    cond-true _ _ _ d ∙ ap Some (omega arith)

two-same : (x y n : ℕ) → figures (x ∷ (y ∷ [])) ≡ Some n → (two_digits n ≡ x ∷ (y ∷ [])) × (32 < x) × (32 < y)
two-same x y n e =
    let f = figures-some (x ∷ (y ∷ [])) n e in
    let p : (is_ascii_digit x ≡ true) × ((is_ascii_digit y && true) ≡ true) = and_parts _ _ f.0 in
    let px : (48 ≤ x) × (x ≤ 57) = grind (arith, nat_tests) in
    let py : (48 ≤ y) × (y ≤ 57) = grind (arith, nat_tests) in
    let v : (0 * 10 + (x - 48)) * 10 + (y - 48) ≡ n = f.1 in
    let hx : 48 + n / 10 % 10 ≡ x = omega arith in
    let hy : 48 + n % 10 ≡ y = omega arith in
    (cc, omega arith, omega arith)

two_at : (a b c d e : ℕ) (t : ℕ) → c ≡ 58 → minutes (figures (a ∷ (b ∷ []))) (figures (d ∷ (e ∷ []))) ≡ Some t → (ltb t 1440 ≡ true) × (time_form.text t ≡ a ∷ (b ∷ (c ∷ (d ∷ (e ∷ []))))) × AllByRecursion (λ x. 32 < x) (a ∷ (b ∷ (c ∷ (d ∷ (e ∷ [])))))
two_at a b c d e t colon m =
    let g = minutes-some (figures (a ∷ (b ∷ []))) (figures (d ∷ (e ∷ []))) t m in
    let h = two-same a b g.0 g.2 in
    let k = two-same d e g.1 g.3 in
    let hour : t / 60 ≡ g.0 = omega (arith, g.4, g.5, g.6) in
    let minute : t % 60 ≡ g.1 = omega (arith, g.4, g.5, g.6) in
    let front : two_digits (t / 60) ≡ a ∷ (b ∷ []) = ap two_digits hour ∙ h.0 in
    let end : two_digits (t % 60) ≡ d ∷ (e ∷ []) = ap two_digits minute ∙ k.0 in (
      lt-ltb t 1440 (omega (arith, g.4, g.5, g.6)),
      ap (λ l. l ++ (58 ∷ two_digits (t % 60))) front ∙ ap (λ l. a ∷ (b ∷ (58 ∷ l))) end ∙ ap (λ x. a ∷ (b ∷ (x ∷ (d ∷ (e ∷ []))))) (sym colon),
      (h.1, (h.2, (omega arith, (k.1, (k.2, tt))))),
    )

time-parts : (bs : List ℕ) (t : ℕ) → time bs ≡ Some t → (ltb t 1440 ≡ true) × (time_form.text t ≡ bs) × AllByRecursion (λ x. 32 < x) bs
time-parts (a ∷ (b ∷ (c ∷ (d ∷ (e ∷ []))))) t m =
    let u = some-under (eqb c 58) (minutes (figures (a ∷ (b ∷ []))) (figures (d ∷ (e ∷ [])))) t m in
    two_at a b c d e t (eqb-true c 58 u.0) u.1
time-parts [] t m = let q : ◌≡◌ {A = ℕ} 0 1 = cc in absurd (omega arith)
time-parts (a ∷ []) t m = let q : ◌≡◌ {A = ℕ} 0 1 = cc in absurd (omega arith)
time-parts (a ∷ (b ∷ [])) t m = let q : ◌≡◌ {A = ℕ} 0 1 = cc in absurd (omega arith)
time-parts (a ∷ (b ∷ (c ∷ []))) t m = let q : ◌≡◌ {A = ℕ} 0 1 = cc in absurd (omega arith)
time-parts (a ∷ (b ∷ (c ∷ (d ∷ [])))) t m = let q : ◌≡◌ {A = ℕ} 0 1 = cc in absurd (omega arith)
time-parts (a ∷ (b ∷ (c ∷ (d ∷ (e ∷ (f ∷ fs)))))) t m =
    let l : (eqb (suc (suc (suc (suc (suc (suc (length fs))))))) 5 && eqb c 58) ≡ true = (some-under _ _ t m).0 in
    let n : suc (suc (suc (suc (suc (suc (length fs)))))) ≡ 5 = eqb-true _ _ (and_parts _ _ l).0 in absurd (omega arith)

time-back : (t : ℕ) → ltb t 1440 ≡ true → time (time_form.text t) ≡ Some t
time-back t r =
    let small : t < 1440 = ltb-true t 1440 r in
    let h : t / 60 < 24 = omega arith in
    let k : t % 60 < 60 = omega arith in
    ap (λ o. minutes o (figures (two_digits (t % 60)))) (two_back (t / 60) (omega arith))
    ∙ ap (minutes (Some (t / 60))) (two_back (t % 60) (omega arith))
    ∙ cond-true _ _ _ (and_from _ _ (lt-ltb _ _ h) (lt-ltb _ _ k)) ∙ ap Some (omega arith)

pub times : Faithful time_form
times = record { back = time-back; same = λ bs t e. ((time-parts bs t e).0, (time-parts bs t e).1); solid = λ bs t e. (time-parts bs t e).2 }

-- values of a kind
each-some : {X Y : Type 0} (f : X → Y) (o : Option X) (y : Y) → each f o ≡ Some y → (x : X) × (o ≡ Some x) × (f x ≡ y)
each-some f (Some x) y e = (x, refl, cc)
each-some f None y e = let q : ◌≡◌ {A = ℕ} 0 1 = cc in absurd (omega arith)

value-back : (k : KindWord) (v : Value) → value_right k v ≡ true → value k (value_text v) ≡ Some v
value-back Measure (Left z) r = ap (each measure_value) (measures.back z r)
value-back Measure (Right (Left n)) r = let q : ◌≡◌ {A = ℕ} 0 1 = cc in absurd (omega arith)
value-back Measure (Right (Right t)) r = let q : ◌≡◌ {A = ℕ} 0 1 = cc in absurd (omega arith)
value-back Names (Left z) r = let q : ◌≡◌ {A = ℕ} 0 1 = cc in absurd (omega arith)
value-back Names (Right (Left n)) r = ap (each name_value) (numbers.back n r)
value-back Names (Right (Right t)) r = let q : ◌≡◌ {A = ℕ} 0 1 = cc in absurd (omega arith)
value-back Clock (Left z) r = let q : ◌≡◌ {A = ℕ} 0 1 = cc in absurd (omega arith)
value-back Clock (Right (Left n)) r = let q : ◌≡◌ {A = ℕ} 0 1 = cc in absurd (omega arith)
value-back Clock (Right (Right t)) r = ap (each minute_value) (times.back t r)

abbrev OfValue : KindWord → List ℕ → Value → Type 0
OfValue k bs v = (value_right k v ≡ true) × (value_text v ≡ bs) × AllByRecursion (λ x. 32 < x) bs

value-parts : (k : KindWord) (bs : List ℕ) (v : Value) → value k bs ≡ Some v → OfValue k bs v
value-parts Measure bs v e =
    let g = each-some measure_value (measure bs) v e in let w = measures.same bs g.0 g.1 in
    subst (OfValue Measure bs) g.2 (w.0, w.1, measures.solid bs g.0 g.1)
value-parts Names bs v e =
    let g = each-some name_value (number bs) v e in let w = numbers.same bs g.0 g.1 in
    subst (OfValue Names bs) g.2 (w.0, w.1, numbers.solid bs g.0 g.1)
value-parts Clock bs v e =
    let g = each-some minute_value (time bs) v e in let w = times.same bs g.0 g.1 in
    subst (OfValue Clock bs) g.2 (w.0, w.1, times.solid bs g.0 g.1)

pub values : (k : KindWord) → Faithful (value_form k)
values k = record { back = value-back k; same = λ bs v e. ((value-parts k bs v e).0, (value-parts k bs v e).1); solid = λ bs v e. (value-parts k bs v e).2 }

-- a right value of a kind is of that kind
pub kind-of : (k : KindWord) (v : Value) → value_right k v ≡ true → kind_of v ≡ k
kind-of Measure (Left z) r = refl
kind-of Measure (Right (Left n)) r = let q : ◌≡◌ {A = ℕ} 0 1 = cc in absurd (omega arith)
kind-of Measure (Right (Right t)) r = let q : ◌≡◌ {A = ℕ} 0 1 = cc in absurd (omega arith)
kind-of Names (Left z) r = let q : ◌≡◌ {A = ℕ} 0 1 = cc in absurd (omega arith)
kind-of Names (Right (Left n)) r = refl
kind-of Names (Right (Right t)) r = let q : ◌≡◌ {A = ℕ} 0 1 = cc in absurd (omega arith)
kind-of Clock (Left z) r = let q : ◌≡◌ {A = ℕ} 0 1 = cc in absurd (omega arith)
kind-of Clock (Right (Left n)) r = let q : ◌≡◌ {A = ℕ} 0 1 = cc in absurd (omega arith)
kind-of Clock (Right (Right t)) r = refl
