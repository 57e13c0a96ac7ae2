-- Through the pairs of a quantity, and below each of them through those of the others. Assumes nothing.
use Rattle.std.proofs.Common.{◌≡◌, Bool, true, false, cond, List, [], ◌∷◌, ◌++◌, map, is_some, Some, None, Option, option_map, unwrap_or, sym, refl, ap, ◌∙◌, subst}
use Rattle.std.specs.Prelude.{IfSome}
use Rattle.std.proofs.lemmas.Bool.{both_ways}
use Rattle.std.specs.List.{between}
use Rattle.tables.specs.Contents.{Encounter}
use Rattle.tables.specs.Words.{each, or_else}
use Rattle.lists.specs.Held.{SameShowing}
use Rattle.lists.specs.declared.lent.Showing.{Showing}
use Rattle.sets.specs.declared.Met.{Met}
use Rattle.sets.specs.declared.Mark.{Mark}
use Rattle.sets.specs.declared.Span.{Span}
use Rattle.sets.specs.Walks.{first_of, leaves, narrowed, pairs, put_pair, Walked}

pub same-on : {V : Type 0} {a b c : Showing V} → SameShowing a b → SameShowing b c → SameShowing a c
same-on f s = record { a = s.a ∙ f.a; b = s.b ∙ f.b; pair = s.pair ∙ f.pair }

cond-else : {X : Type 0} (b : Bool) (x : X) (o p r : Option X) → r ≡ or_else o p → cond b (Some x) r ≡ or_else (cond b (Some x) o) p
cond-else true x o p r h = refl
cond-else false x o p r h = h

first-append : {X : Type 0} (f : X → Bool) (xs ys : List X) → first_of f (xs ++ ys) ≡ or_else (first_of f xs) (first_of f ys)
first-append f [] ys = refl
first-append f (x ∷ xs) ys = cond-else (f x) x (first_of f xs) (first_of f ys) (first_of f (xs ++ ys)) (first-append f xs ys)

cond-map : {X Y : Type 0} (h : X → Y) (b : Bool) (x : X) (o : Option X) (p : Option Y) → p ≡ option_map h o → cond b (Some (h x)) p ≡ option_map h (cond b (Some x) o)
cond-map h true x o p e = refl
cond-map h false x o p e = e

some_is : {X : Type 0} (o : Option X) {b : Bool} → b ≡ is_some o → b ≡ true → (x : X) × (o ≡ Some x)
some_is None e h = absurd (both_ways _ e h)
some_is (Some x) e h = (x, refl)

none_is : {X : Type 0} (o : Option X) {b : Bool} → b ≡ is_some o → b ≡ false → o ≡ None
none_is None e h = refl
none_is (Some x) e h = absurd (both_ways _ h e)

module _ {V : Type 0} (f : Met → Bool) where
  -- the earliest one that is sought
  abbrev pub sought_in : List (Met × Encounter V) → Option (Met × Encounter V)
  sought_in = first_of (λ l. f l.0)

  first-map : (h : Encounter V → Encounter V) (ls : List (Met × Encounter V)) → sought_in (map (λ l. (l.0, h l.1)) ls) ≡ option_map (λ l. (l.0, h l.1)) (sought_in ls)
  first-map h [] = refl
  first-map h (l ∷ ls) = cond-map (λ l. (l.0, h l.1)) (f l.0) l (sought_in ls) (sought_in (map (λ l. (l.0, h l.1)) ls)) (first-map h ls)

  module _ (marks : List (Mark V)) where
    unmoved : (ps : List Span) (s : Met) (e : Encounter V) {b : Bool} {x : Encounter V} → Walked f marks ps s e b x → b ≡ false → x ≡ e
    unmoved ps s e w h = w.shows ∙ ap (λ o. unwrap_or (option_map (λ l. l.1) o) e) (none_is (sought_in (leaves marks ps s e)) w.told h)

    module _ (p : Span) (ps : List Span) (s : Met) (e : Encounter V) where
      -- the encounters with the values of a pair
      abbrev pub with_pair : Mark V × Mark V → List (Met × Encounter V)
      with_pair t = map (λ l. (l.0, put_pair p.scope p.quantity t l.1)) (leaves marks ps (narrowed t s) e)

      -- The pairs ts are left, x is shown, and last is what the pair before met: nothing was sought so far.
      pub record On (ts : List (Mark V × Mark V)) (last : Option Met) (x : Encounter V) : Type 0 where
        pub first : sought_in (each ts with_pair) ≡ sought_in (leaves marks (p ∷ ps) s e)
        pub past : IfSome last (λ n. sought_in (leaves marks ps n e) ≡ None)
        pub still : x ≡ e

      pub begun : {ts : List (Mark V × Mark V)} → ts ≡ pairs p.scope (between p.from p.to marks) → On ts None e
      begun h = record { first = ap (λ ts. sought_in (each ts with_pair)) h; past = tt; still = refl }

      -- what is sought among those with a pair's values
      below : (t : Mark V × Mark V) (o : Option (Met × Encounter V)) → sought_in (leaves marks ps (narrowed t s) e) ≡ o → sought_in (with_pair t) ≡ option_map (λ l. (l.0, put_pair p.scope p.quantity t l.1)) o
      below t o h = first-map (put_pair p.scope p.quantity t) (leaves marks ps (narrowed t s) e) ∙ ap (option_map (λ l. (l.0, put_pair p.scope p.quantity t l.1))) h

      module _ {us ts : List (Mark V × Mark V)} {t : Mark V × Mark V} (is : us ≡ t ∷ ts) {last : Option Met} {x : Encounter V} (on : On us last x) where
        at_pair : or_else (sought_in (with_pair t)) (sought_in (each ts with_pair)) ≡ sought_in (leaves marks (p ∷ ps) s e)
        at_pair = sym (first-append (λ l. f l.0) (with_pair t) (each ts with_pair)) ∙ sym (ap (λ ts. sought_in (each ts with_pair)) is) ∙ on.first

        none_below : sought_in (leaves marks ps (narrowed t s) e) ≡ None → sought_in (each ts with_pair) ≡ sought_in (leaves marks (p ∷ ps) s e)
        none_below h = sym (ap (λ o. or_else o (sought_in (each ts with_pair))) (below t None h)) ∙ at_pair

        -- the pair before met the same
        pub skipped : {n : Met} → n ≡ narrowed t s → last ≡ Some n → On ts last x
        skipped {n} m h =
            let none : sought_in (leaves marks ps n e) ≡ None = subst (λ o. IfSome o (λ n. sought_in (leaves marks ps n e) ≡ None)) h on.past in
            record { first = none_below (sym (ap (λ n. sought_in (leaves marks ps n e)) m) ∙ none); past = on.past; still = on.still }

        at_e : {n : Met} {b : Bool} {y : Encounter V} → n ≡ narrowed t s → Walked f marks ps n x b y → Walked f marks ps (narrowed t s) e b y
        at_e {n} {b} {y} m w = subst (λ n. Walked f marks ps n e b y) m (subst (λ x. Walked f marks ps n x b y) on.still w)

        pub passed : {n : Met} {b : Bool} {y : Encounter V} → n ≡ narrowed t s → Walked f marks ps n x b y → b ≡ false → On ts (Some n) y
        passed {n} m w h =
            let v = at_e m w in
            let none : sought_in (leaves marks ps (narrowed t s) e) ≡ None = none_is (sought_in (leaves marks ps (narrowed t s) e)) v.told h in
            record { first = none_below none; past = ap (λ n. sought_in (leaves marks ps n e)) m ∙ none; still = unmoved ps (narrowed t s) e v h }

        pub found : {n : Met} {b : Bool} {y z : Encounter V} → n ≡ narrowed t s → Walked f marks ps n x b y → b ≡ true → z ≡ put_pair p.scope p.quantity t y → Walked f marks (p ∷ ps) s e true z
        found {n} {b} {y} {z} m w h is =
            let v = at_e m w in
            let some = some_is (sought_in (leaves marks ps (narrowed t s) e)) v.told h in
            let l = some.0 in
            let first : sought_in (leaves marks (p ∷ ps) s e) ≡ Some (l.0, put_pair p.scope p.quantity t l.1) = sym at_pair ∙ ap (λ o. or_else o (sought_in (each ts with_pair))) (below t (Some l) some.1) in
            let here : y ≡ l.1 = v.shows ∙ ap (λ o. unwrap_or (option_map (λ l. l.1) o) e) some.1 in
            record {
              told = sym (ap is_some first);
              shows = is ∙ ap (put_pair p.scope p.quantity t) here ∙ sym (ap (λ o. unwrap_or (option_map (λ l. l.1) o) e) first);
            }

      pub over : {ts : List (Mark V × Mark V)} {last : Option Met} {x : Encounter V} → ts ≡ [] → On ts last x → Walked f marks (p ∷ ps) s e false x
      over none on =
          let first : sought_in (leaves marks (p ∷ ps) s e) ≡ None = sym on.first ∙ ap (λ ts. sought_in (each ts with_pair)) none in
          record { told = sym (ap is_some first); shows = on.still ∙ sym (ap (λ o. unwrap_or (option_map (λ l. l.1) o) e) first) }
