-- The first that is found by sets is the first of the encounters made of starts. Assumes nothing.
use Rattle.std.proofs.Common.{◌≡◌, ℕ, suc, ◌+◌, Bool, true, false, cond, List, [], ◌∷◌, ◌++◌, map, is_some, Some, None, Option, unwrap_or, sym, refl, ap, ◌∙◌, ap₂, subst, subst₂, arith, append-nil, zero-add}
use Rattle.std.specs.Option.{option_map}
use Rattle.std.specs.List.{slice_get, between}
use Rattle.kinds.specs.Meaning.{Meaning}
use Rattle.results.specs.Results.{Results}
use Rattle.items.specs.declared.Counts.{Counts}
use Rattle.items.specs.declared.Scope.{Scope}
use Rattle.items.specs.declared.Scope.TheVariants.{Flight, Pair}
use Rattle.items.specs.declared.Side.TheVariants.{OfA, OfB, OfPair}
use Rattle.items.specs.declared.Quantity.{Quantity}
use Rattle.items.specs.declared.Row.{Row}
use Rattle.items.specs.declared.Entry.{Entry}
use Rattle.tables.specs.Words.{each, or_else}
use Rattle.tables.specs.Contents.{Contents, Encounter, Place, sides, places_from, put, whole}
use Rattle.tables.specs.Acceptance.{Acceptable}
use Rattle.tables.specs.Starts.{cells_of, starts, choices, from_starts}
use Rattle.tables.proofs.Placing.{place}
use Rattle.sets.specs.declared.Met.{Met}
use Rattle.sets.specs.declared.Mark.{Mark}
use Rattle.sets.specs.declared.Span.{Span}
use Rattle.sets.specs.Sets.{MetBelow}
use Rattle.sets.specs.Marks.{Marked, AllMarked, AllSpanned}
use Rattle.sets.specs.Walks.{first_of, pairs, narrowed, put_pair, leaves}
use Rattle.ways.specs.Ways.{Tells, FindTheEarliest, WalksFind}
use Rattle.ways.proofs.Narrowing.{Beside, put_pair-whole, narrow_met, none-read, all_read}
use Rattle.ways.proofs.Leaves.{each-pairs, leaf_with, Others, leaves_put, spans-above}
use Rattle.ways.proofs.Altering.{first-has, Differs, starts_alter}

first-append : {X : Type 0} (f : X → Bool) (xs ys : List X) → first_of f (xs ++ ys) ≡ or_else (first_of f xs) (first_of f ys)
first-append f [] ys = refl
first-append {X} f (x ∷ xs) ys = ap (cond (f x) (Some x)) (first-append f xs ys) ∙ go (f x) (first_of f xs)
  where
    go : (b : Bool) (o : Option X) → cond b (Some x) (or_else o (first_of f ys)) ≡ or_else (cond b (Some x) o) (first_of f ys)
    go true o = refl
    go false o = refl

map-or : {X Y : Type 0} (h : X → Y) (o u : Option X) → option_map h (or_else o u) ≡ or_else (option_map h o) (option_map h u)
map-or h (Some x) u = refl
map-or h None u = refl

some-map : {X Y : Type 0} (h : X → Y) (o : Option X) → is_some (option_map h o) ≡ is_some o
some-map h (Some x) = refl
some-map h None = refl

module _ {V : Type 0} (g : Met → Bool) (f : Encounter V → Bool) where
  -- what is first found by g is first found by f
  abbrev FoundAlike : List (Met × Encounter V) → List (Encounter V) → Type 0
  FoundAlike ls es = option_map (λ l. l.1) (first_of (λ l. g l.0) ls) ≡ first_of f es

  alike-one : (s : Met) (e : Encounter V) → g s ≡ f e → FoundAlike ((s, e) ∷ []) (e ∷ [])
  alike-one s e h = go (g s) ∙ ap (λ b. cond b (Some e) None) h
    where
      go : (b : Bool) → option_map (λ (l : Met × Encounter V). l.1) (cond b (Some (s, e)) None) ≡ cond b (Some e) None
      go true = refl
      go false = refl

  alike-append : (ks ls : List (Met × Encounter V)) (ds es : List (Encounter V)) → FoundAlike ks ds → FoundAlike ls es → FoundAlike (ks ++ ls) (ds ++ es)
  alike-append ks ls ds es h k =
      let sought : Met × Encounter V → Bool = λ l. g l.0 in
      let shown : Met × Encounter V → Encounter V = λ l. l.1 in
      ap (option_map shown) (first-append sought ks ls) ∙ map-or shown (first_of sought ks) (first_of sought ls) ∙ ap₂ or_else h k ∙ sym (first-append f ds es)

  alike-each : {C : Type 0} (m : Meaning V C) (ws : List Row) (column : ℕ → List (Entry C)) (i : ℕ) (h : Mark V → List (Met × Encounter V)) (k : V → List (Encounter V)) → ((v : V) (x : Mark V) → Marked m ws column i v x → FoundAlike (h x) (k v))
      → (vs : List V) (xs : List (Mark V)) → AllMarked m ws column i vs xs → FoundAlike (each xs h) (each vs k)
  alike-each m ws column i h k same [] [] a = refl
  alike-each m ws column i h k same [] (x ∷ xs) a = absurd a
  alike-each m ws column i h k same (v ∷ vs) [] a = absurd a
  alike-each m ws column i h k same (v ∷ vs) (x ∷ xs) a = alike-append (h x) (each xs h) (k v) (each vs k) (same v x a.0) (alike-each m ws column i h k same vs xs a.1)

module _ {V C R : Type 0} (m : Meaning V C) (r : Results R) (c : Contents V C R) (ok : Acceptable m r c) (n : Counts) (column : ℕ → List (Entry C)) (marks : List (Mark V)) (f : Encounter V → Bool) (g : Met → Bool) where
  abbrev Below : ℕ → Met → Encounter V → Type 0
  Below i s e = MetBelow m n c.rows column c i s e

  -- whatever is met up to quantity i, the way through the rest finds alike
  abbrev Onward : ℕ → List Span → List (Place V) → Type 0
  Onward i ss ps = (s : Met) (e : Encounter V) → whole e ≡ true → Below (suc i) s e → FoundAlike g f (leaves marks ss s e) (choices m c ps e)

  module _ (i : ℕ) (q : Quantity V) (is : slice_get c.quantities i ≡ Some q) (ss : List Span) (others : Others i ss) (ps : List (Place V)) (on : Onward i ss ps) (s : Met) (e : Encounter V) (w : whole e ≡ true) (has : Below i s e) where
    -- the way with a pair of marks of quantity i
    abbrev with_pair : Scope → Mark V × Mark V → List (Met × Encounter V)
    with_pair sc t = map (leaf_with sc i t) (leaves marks ss (narrowed t s) e)

    one-pair : (sc : Scope) → q.scope ≡ sc → (a b : V) (x y : Mark V) → Marked m c.rows column i a x → Marked m c.rows column i b y → Beside sc x y → FoundAlike g f (with_pair sc (x, y)) (choices m c ps (put_pair sc i (x, y) e))
    one-pair sc scope a b x y mx my h =
        subst (λ ls. FoundAlike g f ls (choices m c ps (put_pair sc i (x, y) e))) (leaves_put marks sc i (x, y) ss others (narrowed (x, y) s) e)
        (on (narrowed (x, y) s) (put_pair sc i (x, y) e) (put_pair-whole sc i (x, y) e w) (narrow_met m r c ok n column i q sc is scope a b x y mx my h s e w has))

    through : (sc : Scope) → q.scope ≡ sc → (xs : List (Mark V)) → AllMarked m c.rows column i (starts m (cells_of c i) q) xs → FoundAlike g f (each (pairs sc xs) (with_pair sc)) (choices m c (map (place i q) (sides sc) ++ ps) e)
    through Flight scope xs all =
        let vs = starts m (cells_of c i) q in
        subst (λ ls. FoundAlike g f ls (choices m c (map (place i q) (sides Flight) ++ ps) e)) (sym (each-pairs Flight xs (with_pair Flight)))
        (alike-each g f m c.rows column i (λ x. each xs (λ y. with_pair Flight (x, y))) (λ a. each vs (λ b. choices m c ps (put OfB i b (put OfA i a e))))
        (λ a x mx. alike-each g f m c.rows column i (λ y. with_pair Flight (x, y)) (λ b. choices m c ps (put OfB i b (put OfA i a e)))
        (λ b y my. subst₂ (λ a b. FoundAlike g f (with_pair Flight (x, y)) (choices m c ps (put OfB i b (put OfA i a e)))) mx.value my.value (one-pair Flight scope a b x y mx my tt))
        vs xs all) vs xs all)
    through Pair scope xs all =
        let vs = starts m (cells_of c i) q in
        subst (λ ls. FoundAlike g f ls (choices m c (map (place i q) (sides Pair) ++ ps) e)) (sym (each-pairs Pair xs (with_pair Pair)))
        (alike-each g f m c.rows column i (λ x. with_pair Pair (x, x) ++ []) (λ a. choices m c ps (put OfPair i a e))
        (λ a x mx. subst₂ (λ ls a. FoundAlike g f ls (choices m c ps (put OfPair i a e))) (sym (append-nil (with_pair Pair (x, x)))) mx.value (one-pair Pair scope a a x x mx mx refl))
        vs xs all)

  module _ (tells : Tells m n c column g f) where
    find : (i : ℕ) (qs : List (Quantity V)) (ss : List Span) → ((j : ℕ) → slice_get c.quantities (i + j) ≡ slice_get qs j) → AllSpanned m c column marks i qs ss
        → (s : Met) (e : Encounter V) → whole e ≡ true → Below i s e → FoundAlike g f (leaves marks ss s e) (choices m c (places_from i qs) e)
    find i [] [] at a s e w has = alike-one g f s e (tells s e (all_read m r c ok n column i at s e has))
    find i [] (p ∷ ss) at a s e w has = absurd a
    find i (q ∷ qs) [] at a s e w has = absurd a
    find i (q ∷ qs) (p ∷ ss) at a s e w has =
        let xs = between p.from p.to marks in
        let here : i + 0 ≡ i = omega arith in
        let next : (j : ℕ) → suc i + j ≡ i + suc j = λ j. omega arith in
        let on : Onward i ss (places_from (suc i) qs) = find (suc i) qs ss (λ j. ap (slice_get c.quantities) (next j) ∙ at (suc j)) a.1 in
        subst₂ (λ sc k. FoundAlike g f (each (pairs sc xs) (λ t. map (leaf_with sc k t) (leaves marks ss (narrowed t s) e))) (choices m c (places_from i (q ∷ qs)) e)) (sym a.0.scope) (sym a.0.quantity)
        (through i q (ap (slice_get c.quantities) (sym here) ∙ at 0) ss (spans-above m c column marks i (suc i) qs ss (omega arith) a.1) (places_from (suc i) qs) on s e w has q.scope refl xs a.0.marked)

module _ {V C R : Type 0} (m : Meaning V C) (r : Results R) (n : Counts) (c : Contents V C R) (ok : Acceptable m r c) (column : ℕ → List (Entry C)) (marks : List (Mark V)) (spans : List Span) where
  pub find_the_earliest : FindTheEarliest m n c column marks spans
  find_the_earliest spanned f g tells s all e w =
      find m r c ok n column marks f g tells 0 c.quantities spans (λ j. ap (slice_get c.quantities) (zero-add j)) spanned s e w (none-read m r c ok n column s e all)

  pub walks_find : WalksFind m n c column marks spans
  walks_find spanned f g tells s all e w b after walked =
      let earliest = find_the_earliest spanned f g tells s all e w in
      let shows : after ≡ unwrap_or (first_of f (from_starts m c e)) e = walked.shows ∙ ap (λ o. unwrap_or o e) earliest in
      let differs : Differs m c e after = subst (Differs m c e) (sym shows) (first-has (Differs m c e) f e (from_starts m c e) (refl, w) (starts_alter m c e w)) in
      record {
        told = walked.told ∙ sym (some-map (λ l. l.1) (first_of (λ l. g l.0) (leaves marks spans s e))) ∙ ap is_some earliest;
        shows = shows;
        others = differs.0;
        lengths = differs.1;
      }
