-- Bytes written one after another.
use Rattle.std.proofs.Common.{◌≡◌, ℕ, zero, suc, ◌+◌, ◌/◌, ◌%◌, ◌^◌, ◌<◌, ◌≤◌, Bool, true, false, cond, not, ◌&&◌, eqb, List, [], ◌∷◌, ◌++◌, map, filter, Some, None, length, get_or, take, drop, ℤ, pos, negsuc, nat_abs, decimal, sym, refl, add-one, div-one, ap, ◌∙◌, subst, ⊎_elim, arith}
use lib.Signed.{lt_z}
use Rattle.std.specs.Fmt.{signed_decimal}
use Rattle.std.proofs.lemmas.Fmt.{decimal_step, decimal_digit}
use Rattle.std.proofs.lemmas.List.{map-id, append_assoc, append-nil, length-append, take-append-drop, take_at, drop_at, drop-drop, length-take-le, take_more, flat_map_more, map-append}
use Rattle.std.proofs.lemmas.Bool.{lt-ltb, ltb-true, cases_lt, cond-true, cond-false}
use Rattle.std.proofs.lemmas.Bool.Decides.{eqb_tells}
use Rattle.std.specs.Option.{IsSome}
use Rattle.names.specs.NameSets.{has}
use Rattle.names.specs.declared.NameSet.{NameSet}
use Rattle.std.specs.List.{range_with_len}
use Rattle.std.proofs.lemmas.List.FromFn.{filter_of_map_range_with_len_more}
use Rattle.std.proofs.Math.Nat.{div-div-eq-div-mul, pow-succ'}
use Rattle.house.specs.House.{Cell}
use Rattle.items.specs.declared.Entry.{Entry}
use Rattle.text.specs.Fields.{followed, rejoined}
use Rattle.text.specs.Texts.{names_in, band_text, marked_text, entry_text}
use Rattle.writer.specs.Writing.{put_at, buffer, Wrote, Fresh}
use Rattle.writer.specs.declared.buffer.Writer.{Writer}

cond_same : {X : Type 0} (b : Bool) (x : X) → cond b x x ≡ x
cond_same true x = refl
cond_same false x = refl

put-none : (at : ℕ) (out : List ℕ) → put_at at [] out ≡ out
put-none at out = let k : at + 0 ≡ at = omega arith in ap (λ k. take at out ++ drop k out) k ∙ take-append-drop at out

put-more : (at : ℕ) (xs ys out : List ℕ) → at + (length xs + length ys) ≤ length out → put_at (at + length xs) ys (put_at at xs out) ≡ put_at at (xs ++ ys) out
put-more at xs ys out h =
    let n = at + length xs in
    let l : length (take at out) ≡ at = length-take-le at out (omega arith) in
    let len : length (take at out ++ xs) ≡ n = length-append (take at out) xs ∙ ap (λ k. k + length xs) l in
    let e : put_at at xs out ≡ (take at out ++ xs) ++ drop n out = sym (append_assoc (take at out) xs (drop n out)) in
    let t : take n (put_at at xs out) ≡ take at out ++ xs = ap (take n) e ∙ take_at (take at out ++ xs) (drop n out) n len in
    let d : drop n (put_at at xs out) ≡ drop n out = ap (drop n) e ∙ drop_at (take at out ++ xs) (drop n out) n len in
    let d2 : drop (n + length ys) (put_at at xs out) ≡ drop (at + length (xs ++ ys)) out =
    sym (drop-drop (length ys) n (put_at at xs out)) ∙ ap (drop (length ys)) d ∙ drop-drop (length ys) n out ∙ ap (λ k. drop k out) (omega (arith, length-append xs ys)) in
    ap (λ z. z ++ (ys ++ drop (n + length ys) (put_at at xs out))) t ∙ ap (λ z. (take at out ++ xs) ++ (ys ++ z)) d2
    ∙ append_assoc (take at out) xs (ys ++ drop (at + length (xs ++ ys)) out) ∙ ap (λ z. take at out ++ z) (sym (append_assoc xs ys (drop (at + length (xs ++ ys)) out)))

pub wrote_none : {live : ℕ} (w : Writer live) → Wrote w [] w
wrote_none {live} w = record {
  fits = λ at e h. (e ∙ ap (λ k. Some k) (omega arith), sym (ap (λ o. cond (eqb live 0) (buffer w) o) (put-none at (buffer w)) ∙ cond_same (eqb live 0) (buffer w)));
  over = λ at e h k. absurd (omega arith);
  stays = λ h. h;
  kept = λ h. refl;
  size = refl;
  lender = refl;
  dry = λ h. refl;
}

pub wrote-more : {live : ℕ} {w v u : Writer live} {xs ys : List ℕ} → Wrote w xs v → Wrote v ys u → Wrote w (xs ++ ys) u
wrote-more {live} {w} {v} {u} {xs} {ys} a b =
    let l = length-append xs ys in
    let z = a.size in
    record {
      fits = λ at e h.
          let f = a.fits at e (omega arith) in
          let g = b.fits (at + length xs) f.0 (omega arith) in
          let m = put-more at xs ys (buffer w) (omega arith) in (
            g.0 ∙ ap (λ k. Some k) (omega arith),
            ⊎_elim (λ t. b.dry t.1 ∙ a.dry t.1 ∙ sym (cond-true _ _ _ t.0))
                (λ t. g.1 ∙ cond-false _ _ _ t.0 ∙ ap (put_at (at + length xs) ys) (f.1 ∙ cond-false _ _ _ t.0) ∙ m ∙ sym (cond-false _ _ _ t.0)) (eqb_tells live 0),
          );
      over = λ at e h k.
          ⊎_elim (λ (o : length (buffer w) < at + length xs). b.stays (a.over at e h o))
          (λ (o : at + length xs ≤ length (buffer w)). b.over (at + length xs) (a.fits at e o).0 (omega arith) (omega arith)) (cases_lt (length (buffer w)) (at + length xs));
      stays = λ h. b.stays (a.stays h);
      kept = λ h. b.kept (a.stays h) ∙ a.kept h;
      size = b.size ∙ a.size;
      lender = b.lender ∙ a.lender;
      dry = λ h. b.dry h ∙ a.dry h;
    }

-- what is written, by another name
pub wrote_as : {live : ℕ} {w u : Writer live} {xs ys : List ℕ} → xs ≡ ys → Wrote w xs u → Wrote w ys u
wrote_as {live} {w} {u} e a = subst (λ l. Wrote w l u) e a

pub wrote-from : {live : ℕ} {w v u : Writer live} {xs : List ℕ} → v ≡ w → Wrote v xs u → Wrote w xs u
wrote-from {live} {w} {v} {u} {xs} e a = subst (λ x. Wrote x xs u) e a

pub number_more : {live : ℕ} {w v q u : Writer live} (n : ℕ) → 10 ≤ n → n < 2 ^ 64 → Wrote w (decimal (n / 10)) v → q ≡ v → Wrote q ((48 + n % 10) ∷ []) u → Wrote w (decimal n) u
number_more n h k a e b = wrote_as (sym (decimal_step n h k)) (wrote-more a (wrote-from e b))

pub number-one : {live : ℕ} {w q u : Writer live} (n : ℕ) → n < 10 → q ≡ w → Wrote q ((48 + n % 10) ∷ []) u → Wrote w (decimal n) u
number-one n h e b = let m : 48 + n % 10 ≡ 48 + n = omega arith in wrote_as (ap (λ d. d ∷ []) m ∙ sym (decimal_digit n h)) (wrote-from e b)

pub word_more : {live : ℕ} {w v u : Writer live} (word : List ℕ) (i : ℕ) → i < length word → Wrote w (take i word) v → Wrote v (get_or word i 0 ∷ []) u → Wrote w (take (i + 1) word) u
word_more word i h a b = wrote_as (sym (take_more word i 0 h)) (wrote-more a b)

pub signed_below : (z : ℤ) → lt_z z (pos 0) ≡ true → 45 ∷ decimal (nat_abs z) ≡ signed_decimal z
signed_below (pos n) l = absurd (omega (arith, ltb-true n 0 l))
signed_below (negsuc n) l = refl

pub put_front : (text out : List ℕ) → put_at 0 text out ≡ text ++ drop (length text) out
put_front text out = let k : 0 + length text ≡ length text = omega arith in ap (λ i. text ++ drop i out) k

-- one more entry
pub entry_more : {live : ℕ} {w v q u : Writer live} (es : List (Entry Cell)) (i : ℕ) (d : Entry Cell) → i < length es → Wrote w (followed 32 (map entry_text (take i es))) v → Wrote v (32 ∷ []) q → Wrote q (entry_text (get_or es i d)) u → Wrote w (followed 32 (map entry_text (take (i + 1) es))) u
entry_more es i d h a b c =
    let e = get_or es i d in
    wrote_as (flat_map_more (λ p. 32 ∷ p) [] (map entry_text (take i es)) (entry_text e) ∙ ap (followed 32) (sym (map-append entry_text (take i es) (e ∷ [])) ∙ ap (map entry_text) (sym (take_more es i d h)))) (wrote-more a (wrote-more b c))

-- the names of a set among the first n numbers
abbrev pub names_below : NameSet → ℕ → List ℕ
names_below s n = filter (has s) (range_with_len 0 n)

names-from : (s : NameSet) (k n : ℕ) → n + k ≡ 32 → filter (has s) (range_with_len n k) ≡ names_in k n (s.bits / 2 ^ n)
names-from s zero n h = refl
names-from s (suc k) n h =
    let l : n < 32 = omega arith in
    let d : s.bits / 2 ^ (n + 1) ≡ s.bits / 2 ^ n / 2 = sym (div-div-eq-div-mul s.bits (2 ^ n) 2 ∙ ap (λ m. s.bits / m) (omega (arith, pow-succ' 2 n, ap (λ i. 2 ^ i) (add-one n)))) in
    let f = names-from s k (n + 1) (omega (arith, h)) in
    let e : has s n ≡ eqb (s.bits / 2 ^ n % 2) 1 = ap (λ b. b && eqb (s.bits / 2 ^ n % 2) 1) (lt-ltb n 32 l) in
    let j : suc n ≡ n + 1 = omega arith in
    let r : filter (has s) (range_with_len (n + 1) k) ≡ names_in k (suc n) (s.bits / 2 ^ n / 2) = f ∙ ap (names_in k (n + 1)) d ∙ ap (λ i. names_in k i (s.bits / 2 ^ n / 2)) (sym j) in
    ap (λ t. cond t (n ∷ filter (has s) (range_with_len (n + 1) k)) (filter (has s) (range_with_len (n + 1) k))) e
    ∙ ap (λ ns. cond (eqb (s.bits / 2 ^ n % 2) 1) (n ∷ ns) ns) r

pub all-names : (s : NameSet) → names_below s 32 ≡ names_in 32 0 s.bits
all-names s = names-from s 32 0 refl ∙ ap (names_in 32 0) (div-one s.bits)

names-push : (s : NameSet) (n : ℕ) → names_below s (n + 1) ≡ names_below s n ++ cond (has s n) (n ∷ []) []
names-push s n = simp map-id at (filter_of_map_range_with_len_more (has s) (λ k. k) 0 n n (omega arith))

-- whether there are some
abbrev pub some_of : List ℕ → Bool
some_of [] = false
some_of (n ∷ ns) = true

-- names written so far, parted by commas, and whether there are some
pub record Named {live : ℕ} (w : Writer live) (ns : List ℕ) (some : Bool) (v : Writer live) : Type 0 where
  pub wrote : Wrote w (rejoined 44 (map decimal ns)) v
  pub told : some ≡ some_of ns

pub named-first : {live : ℕ} {w v q u : Writer live} (ns : List ℕ) (n : ℕ) {some : Bool} → Named w ns some v → some ≡ false → q ≡ v → Wrote q (decimal n) u → Named w (ns ++ (n ∷ [])) true u
named-first [] n a f e d = record { wrote = wrote_as (sym (append-nil (decimal n))) (wrote-more a.wrote (wrote-from e d)); told = refl }
named-first (m ∷ ns) n a f e d = let t = a.told in absurd cc

pub named-after : {live : ℕ} {w v x q u : Writer live} (ns : List ℕ) (n : ℕ) {some : Bool} → Named w ns some v → some ≡ true → Wrote v (44 ∷ []) x → q ≡ x → Wrote q (decimal n) u → Named w (ns ++ (n ∷ [])) true u
named-after [] n a f b e d = let t = a.told in absurd cc
named-after (m ∷ ns) n a f b e d = record {
  wrote = wrote_as (flat_map_more (λ p. 44 ∷ p) (decimal m) (map decimal ns) (decimal n) ∙ ap (λ t. decimal m ++ followed 44 t) (sym (map-append decimal ns (n ∷ [])))) (wrote-more a.wrote (wrote-more b (wrote-from e d)));
  told = refl;
}

pub named-as : {live : ℕ} {w v u : Writer live} {ns : List ℕ} {some next : Bool} → next ≡ some → v ≡ u → Named w ns some u → Named w ns next v
named-as {live} {w} {v} {u} {ns} {some} {next} e f a = subst (λ x. Named w ns next x) (sym f) (subst (λ b. Named w ns b u) (sym e) a)

pub named-here : {live : ℕ} {w u : Writer live} (s : NameSet) (n : ℕ) → has s n ≡ true → Named w (names_below s n ++ (n ∷ [])) true u → Named w (names_below s (n + 1)) true u
named-here {live} {w} {u} s n h a = subst (λ ns. Named w ns true u) (sym (names-push s n ∙ ap (λ ns. names_below s n ++ ns) (cond-true (has s n) (n ∷ []) [] h))) a

pub named-absent : {live : ℕ} {w u : Writer live} {some : Bool} (s : NameSet) (n : ℕ) → has s n ≡ false → Named w (names_below s n) some u → Named w (names_below s (n + 1)) some u
named-absent {live} {w} {u} {some} s n h a = subst (λ ns. Named w ns some u) (sym (names-push s n ∙ ap (λ ns. names_below s n ++ ns) (cond-false (has s n) (n ∷ []) [] h) ∙ append-nil (names_below s n))) a

pub signed-above : (z : ℤ) → lt_z z (pos 0) ≡ false → decimal (nat_abs z) ≡ signed_decimal z
signed-above (pos n) l = refl
signed-above (negsuc n) l = absurd cc

pub marked-in : {live : ℕ} {w u : Writer live} (inside : Bool) (lo hi : ℤ) → not inside ≡ false → Wrote w (band_text lo hi) u → Wrote w (marked_text inside lo hi) u
marked-in true lo hi t a = a
marked-in false lo hi t a = absurd cc

pub marked-out : {live : ℕ} {w v u : Writer live} (inside : Bool) (lo hi : ℤ) → not inside ≡ true → Wrote w (33 ∷ []) v → Wrote v (band_text lo hi) u → Wrote w (marked_text inside lo hi) u
marked-out true lo hi t a b = absurd cc
marked-out false lo hi t a b = wrote-more a b

-- a text that is counted from the front of a buffer: where a byte found no place, it is longer
pub measured-over : {w v : Writer 0} (text : List ℕ) → Fresh w → Wrote w text v → v.at ≡ None → length (buffer w) < length text
measured-over {w} {v} text f a t =
    ⊎_elim (λ (l : length (buffer w) < length text). l)
    (λ (l : length text ≤ length (buffer w)). let r = a.fits 0 f (omega arith) in absurd cc) (cases_lt (length (buffer w)) (length text))

-- and where all found one, it is not
pub measured-fits : {w v : Writer 0} (text : List ℕ) → Fresh w → Wrote w text v → IsSome v.at → length text ≤ length (buffer w)
measured-fits {w} {v} text f a t =
    ⊎_elim (λ (l : length (buffer w) < length text).
    let z : IsSome {T = ℕ} None = subst IsSome (a.over 0 f (omega arith) (omega arith)) t in
    absurd cc)
    (λ (l : length text ≤ length (buffer w)). l) (cases_lt (length (buffer w)) (length text))

-- a text that is counted and then written there: where it fits, it stands at the front, and the bytes after it
-- are as they were
pub walked : {w v : Writer 0} {q u : Writer 1} (text : List ℕ) → Fresh w → Wrote w text v → IsSome v.at → Fresh q → buffer q ≡ buffer v → Wrote q text u → (u.at ≡ Some (length text)) × (length text ≤ length (buffer w)) × (buffer u ≡ text ++ drop (length text) (buffer w))
walked {w} {v} {q} {u} text f a t g e b =
    let l = measured-fits text f a t in
    let d : buffer q ≡ buffer w = e ∙ a.dry refl in
    let size : length (buffer q) ≡ length (buffer w) = ap length d in
    let r = b.fits 0 g (omega arith) in (
      r.0 ∙ ap (λ n. Some n) (omega arith),
      l,
      r.1 ∙ put_front text (buffer q) ∙ ap (λ o. text ++ drop (length text) o) d,
    )

-- and where it does not fit, nothing is written
pub walked-over : {w v : Writer 0} (text : List ℕ) → Fresh w → Wrote w text v → v.at ≡ None → (length (buffer w) < length text) × (buffer v ≡ buffer w)
walked-over text f a t = (measured-over text f a t, a.dry refl)
