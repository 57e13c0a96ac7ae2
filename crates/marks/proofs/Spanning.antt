-- The marks of one start more, and the span of one quantity more. Assumes nothing.
use Rattle.std.proofs.Common.{◌≡◌, ℕ, zero, suc, ◌+◌, ◌-◌, ◌<◌, ◌≤◌, List, [], ◌∷◌, ◌++◌, length, take, drop, set, get_or, Some, None, sym, refl, ap, ◌∙◌, subst, add-one, arith}
use Rattle.std.specs.List.{AllByRecursion, between}
use Rattle.std.proofs.lemmas.List.{take_more_set, take-set, take_more, take-take, drop_more, drop_all, drop-append-le, take_all, length-take, length-drop, length-set}
use Rattle.std.proofs.lemmas.List.Edits.{between_none}
use Rattle.std.proofs.lemmas.Slice.{between_is}
use Rattle.kinds.specs.Meaning.{Meaning, Lawful}
use Rattle.items.specs.declared.Quantity.{Quantity}
use Rattle.items.specs.declared.Row.{Row}
use Rattle.items.specs.declared.Entry.{Entry}
use Rattle.tables.specs.Contents.{Contents}
use Rattle.tables.specs.Starts.{cells_of, onward, next, starts_on, starts}
use Rattle.tables.proofs.Covering.{starts-on}
use Rattle.sets.specs.declared.Mark.{Mark}
use Rattle.sets.specs.declared.Span.{Span}
use Rattle.sets.specs.Marks.{Marked, AllMarked, Spanned, AllSpanned}
use Rattle.marks.specs.Fills.{MarkedTo, starts_in_all}

-- the first n elements, where y is the next
take-next : {X : Type 0} (n : ℕ) (xs : List X) (y : X) (ys : List X) → drop n xs ≡ y ∷ ys → (take (suc n) xs ≡ take n xs ++ y ∷ []) × (drop (suc n) xs ≡ ys)
take-next zero [] y ys e = cc
take-next zero (x ∷ xs) y ys e = let a : x ≡ y = cc in let b : xs ≡ ys = cc in (ap (λ x. x ∷ []) a, b)
take-next (suc n) [] y ys e = cc
take-next (suc n) (x ∷ xs) y ys e = let t = take-next n xs y ys e in (ap (λ xs. x ∷ xs) t.0, t.1)

-- a list with x written at the end of what lies from one place up to another
between-set : {X : Type 0} (xs : List X) (from i : ℕ) (x : X) → from ≤ i → i < length xs → between from (i + 1) (set xs i x) ≡ between from i xs ++ x ∷ []
between-set xs from i x h lt =
    let a : from ≤ length (take i xs) = omega (arith, length-take i xs) in
    between_is (set xs i x) from (i + 1) ∙ ap (drop from) (take_more_set xs i x lt) ∙ drop-append-le from (take i xs) (x ∷ []) a ∙ ap (λ ys. ys ++ x ∷ []) (sym (between_is xs from i))

-- what lies up to a place is the same where the lists are the same up to there
between-same : {X : Type 0} (xs ys : List X) (n from to : ℕ) → take n xs ≡ take n ys → to ≤ n → between from to xs ≡ between from to ys
between-same xs ys n from to e h =
    between_is xs from to ∙ ap (drop from) (sym (take-take to n xs h) ∙ ap (take to) e ∙ take-take to n ys h) ∙ sym (between_is ys from to)

module _ {V C : Type 0} (m : Meaning V C) (ws : List Row) (column : ℕ → List (Entry C)) (i : ℕ) where
  all-append : (vs : List V) (xs : List (Mark V)) (v : V) (x : Mark V) → AllMarked m ws column i vs xs → Marked m ws column i v x → AllMarked m ws column i (vs ++ v ∷ []) (xs ++ x ∷ [])
  all-append [] [] v x h k = (k, tt)
  all-append [] (y ∷ ys) v x h k = absurd h
  all-append (u ∷ us) [] v x h k = absurd h
  all-append (u ∷ us) (y ∷ ys) v x h k = (h.0, all-append us ys v x h.1 k)

-- the starts of quantity i that are marked from a place on, those up to at excluded
module _ {V C R : Type 0} (m : Meaning V C) (c : Contents V C R) (column : ℕ → List (Entry C)) (i : ℕ) (q : Quantity V) where
  abbrev all : List V
  all = starts m (cells_of c i) q

  pub record MarkedUpTo (before marks : List (Mark V)) (from place : ℕ) (at : V) : Type 0 where
    pub marked : AllMarked m c.rows column i (take (place - from) all) (between from place marks)
    pub left : drop (place - from) all ≡ starts_on m (cells_of c i) q.greatest at
    pub kept : take from marks ≡ take from before

  pub up-none : (marks : List (Mark V)) (from : ℕ) → MarkedUpTo marks marks from from q.least
  up-none marks from =
      let z : 0 ≡ from - from = omega arith in
      record {
        marked = subst (λ n. AllMarked m c.rows column i (take n all) (between from from marks)) z (subst (AllMarked m c.rows column i []) (sym (between_none marks from)) tt);
        left = subst (λ n. drop n all ≡ starts_on m (cells_of c i) q.greatest q.least) z refl;
        kept = refl;
      }

  module _ (law : Lawful m) (before marks : List (Mark V)) (from place : ℕ) (at : V) (x : Mark V)
      (inv : MarkedUpTo before marks from place at) (h : from ≤ place) (lt : place < length marks) (mark : Marked m c.rows column i at x) where
    one-on : place + 1 - from ≡ suc (place - from)
    one-on = omega arith

    opened : drop (place - from) all ≡ at ∷ onward (starts_on m (cells_of c i) q.greatest) (next m (cells_of c i) q.greatest at)
    opened = inv.left ∙ starts-on m law (cells_of c i) q.greatest at

    marked-on : AllMarked m c.rows column i (take (suc (place - from)) all) (between from (place + 1) (set marks place x))
    marked-on =
        let t = take-next (place - from) all at (onward (starts_on m (cells_of c i) q.greatest) (next m (cells_of c i) q.greatest at)) opened in
        subst (λ vs. AllMarked m c.rows column i vs (between from (place + 1) (set marks place x))) (sym t.0)
        (subst (AllMarked m c.rows column i (take (place - from) all ++ at ∷ [])) (sym (between-set marks from place x h lt))
        (all-append m c.rows column i (take (place - from) all) (between from place marks) at x inv.marked mark))

    left-on : drop (suc (place - from)) all ≡ onward (starts_on m (cells_of c i) q.greatest) (next m (cells_of c i) q.greatest at)
    left-on = (take-next (place - from) all at (onward (starts_on m (cells_of c i) q.greatest) (next m (cells_of c i) q.greatest at)) opened).1

    kept-on : take from (set marks place x) ≡ take from before
    kept-on = sym (take-take from place (set marks place x) h) ∙ ap (take from) (take-set marks place x) ∙ take-take from place marks h ∙ inv.kept

    pub up-more : (s : V) → Some s ≡ next m (cells_of c i) q.greatest at → MarkedUpTo before (set marks place x) from (place + 1) s
    up-more s e = record {
      marked = subst (λ n. AllMarked m c.rows column i (take n all) (between from (place + 1) (set marks place x))) (sym one-on) marked-on;
      left = ap (λ n. drop n all) one-on ∙ left-on ∙ sym (ap (onward (starts_on m (cells_of c i) q.greatest)) e);
      kept = kept-on;
    }

    pub up-last : None ≡ next m (cells_of c i) q.greatest at → MarkedTo m c column i q before (set marks place x) from (place + 1)
    up-last e =
        let none : drop (suc (place - from)) all ≡ [] = left-on ∙ sym (ap (onward (starts_on m (cells_of c i) q.greatest)) e) in
        let few : length all ≤ suc (place - from) = omega (arith, length-drop (suc (place - from)) all, ap length none) in
        let some : suc (place - from) ≤ length all = omega (arith, length-drop (place - from) all, ap length opened) in
        record {
          marked = subst (λ vs. AllMarked m c.rows column i vs (between from (place + 1) (set marks place x))) (take_all (suc (place - from)) all few) marked-on;
          kept = kept-on;
          counted = omega arith;
          within = omega (arith, length-set marks place x);
        }

  pub up-full : (before marks : List (Mark V)) (from place : ℕ) (at : V) → MarkedUpTo before marks from place at → from ≤ place → length marks ≤ place → length marks < from + length all
  up-full before marks from place at inv h k = omega (arith, length-drop (place - from) all, ap length inv.left)

-- the spans of the quantities before number i
module _ {V C R : Type 0} (m : Meaning V C) (c : Contents V C R) (column : ℕ → List (Entry C)) where
  spans-append : (marks : List (Mark V)) (i j : ℕ) (qs : List (Quantity V)) (ss : List Span) (q : Quantity V) (s : Span) → j ≡ i + length qs
      → AllSpanned m c column marks i qs ss → Spanned m c column marks j q s → AllSpanned m c column marks i (qs ++ q ∷ []) (ss ++ s ∷ [])
  spans-append marks i j [] [] q s e h k = let a : j ≡ i = omega arith in (subst (λ j. Spanned m c column marks j q s) a k, tt)
  spans-append marks i j [] (t ∷ ts) q s e h k = absurd h
  spans-append marks i j (p ∷ ps) [] q s e h k = absurd h
  spans-append marks i j (p ∷ ps) (t ∷ ts) q s e h k = let a : j ≡ suc i + length ps = omega arith in (h.0, spans-append marks (suc i) j ps ts q s a h.1 k)

  abbrev Before : ℕ → List Span → Type 0
  Before n = AllByRecursion (λ s. s.to ≤ n)

  before-append : (n k : ℕ) (ss : List Span) (s : Span) → Before n ss → n ≤ k → s.to ≤ k → Before k (ss ++ s ∷ [])
  before-append n k [] s h le here = (here, tt)
  before-append n k (t ∷ ts) s h le here = let a = h.0 in (omega arith, before-append n k ts s h.1 le here)

  -- marks written further on change no span
  spans-kept : (xs ys : List (Mark V)) (n i : ℕ) (qs : List (Quantity V)) (ss : List Span) → take n ys ≡ take n xs → Before n ss → AllSpanned m c column xs i qs ss → AllSpanned m c column ys i qs ss
  spans-kept xs ys n i [] [] e b h = tt
  spans-kept xs ys n i [] (s ∷ ss) e b h = absurd h
  spans-kept xs ys n i (q ∷ qs) [] e b h = absurd h
  spans-kept xs ys n i (q ∷ qs) (s ∷ ss) e b h = (
    record {
      scope = h.0.scope;
      quantity = h.0.quantity;
      marked = subst (AllMarked m c.rows column i (starts m (cells_of c i) q)) (sym (between-same ys xs n s.from s.to e b.0)) h.0.marked;
      counted = h.0.counted;
    },
    spans-kept xs ys n (suc i) qs ss e b.1 h.1,
  )

  module _ (qs : List (Quantity V)) where
    pub record SpannedUpTo (marks : List (Mark V)) (spans : List Span) (i at : ℕ) : Type 0 where
      pub spanned : AllSpanned m c column marks 0 (take i qs) (take i spans)
      pub before : Before at (take i spans)
      pub counted : at + starts_in_all m c i (drop i qs) ≡ starts_in_all m c 0 qs
      pub within : at ≤ length marks

    pub spans-none : (marks : List (Mark V)) (spans : List Span) → SpannedUpTo marks spans 0 0
    spans-none marks spans = record { spanned = tt; before = tt; counted = omega arith; within = omega arith }

    in-all-here : (i : ℕ) (q : Quantity V) → i < length qs → q ≡ get_or qs i q → starts_in_all m c i (drop i qs) ≡ length (starts m (cells_of c i) q) + starts_in_all m c (i + 1) (drop (i + 1) qs)
    in-all-here i q lt is =
        ap (starts_in_all m c i) (drop_more qs i q lt ∙ ap (λ q. q ∷ drop (i + 1) qs) (sym is)) ∙ ap (λ k. length (starts m (cells_of c i) q) + starts_in_all m c k (drop (i + 1) qs)) (sym (add-one i))

    module _ (xs : List (Mark V)) (spans : List Span) (i at : ℕ) (q : Quantity V) (inv : SpannedUpTo xs spans i at) (lt : i < length qs) (is : q ≡ get_or qs i q) where
      pub spans-more : (ys : List (Mark V)) (to : ℕ) (s : Span) → i < length spans → MarkedTo m c column i q xs ys at to → s ≡ record { scope = q.scope; quantity = i; from = at; to = to }
          → SpannedUpTo ys (set spans i s) (i + 1) to
      spans-more ys to s room t e =
          let more : take (i + 1) qs ≡ take i qs ++ q ∷ [] = take_more qs i q lt ∙ ap (λ q. take i qs ++ q ∷ []) (sym is) in
          let longer : take (i + 1) (set spans i s) ≡ take i spans ++ s ∷ [] = take_more_set spans i s room in
          let here : Spanned m c column ys i q s = subst (Spanned m c column ys i q) (sym e) (record { scope = refl; quantity = refl; marked = t.marked; counted = t.counted }) in
          let n : i ≡ 0 + length (take i qs) = omega (arith, length-take i qs) in
          let up : at ≤ to = omega (arith, t.counted) in
          let end : s.to ≤ to = omega (arith, ap (λ s. s.to) e) in
          record {
            spanned = subst (λ qs. AllSpanned m c column ys 0 qs (take (i + 1) (set spans i s))) (sym more)
                (subst (AllSpanned m c column ys 0 (take i qs ++ q ∷ [])) (sym longer)
                (spans-append ys 0 i (take i qs) (take i spans) q s n (spans-kept xs ys at 0 (take i qs) (take i spans) t.kept inv.before inv.spanned) here));
            before = subst (Before to) (sym longer) (before-append at to (take i spans) s inv.before up end);
            counted = omega (arith, inv.counted, in-all-here i q lt is, t.counted);
            within = t.within;
          }

      pub spans-full : (n : ℕ) → n < at + length (starts m (cells_of c i) q) → n < starts_in_all m c 0 qs
      spans-full n h = omega (arith, inv.counted, in-all-here i q lt is)

    pub spans-all : (marks : List (Mark V)) (spans : List Span) (i at : ℕ) → SpannedUpTo marks spans i at → i ≡ length qs
        → AllSpanned m c column marks 0 qs (take (length qs) spans) × (starts_in_all m c 0 qs ≤ length marks)
    spans-all marks spans i at inv all =
        let e : length qs ≤ i = omega arith in (
          subst (λ qs. AllSpanned m c column marks 0 qs (take (length qs) spans)) (take_all i qs e)
              (subst (λ n. AllSpanned m c column marks 0 (take i qs) (take n spans)) (all ∙ sym (ap length (take_all i qs e))) inv.spanned),
          omega (arith, inv.counted, inv.within, ap (starts_in_all m c i) (drop_all i qs e)),
        )
