-- The places of the quantities, one quantity after the other. Assumes nothing.
use Rattle.std.proofs.Common.{◌≡◌, ℕ, suc, ◌+◌, Bool, true, false, cond, List, [], ◌∷◌, ◌++◌, length, drop, sym, ap, ◌∙◌, append_assoc, add-one, arith, length-append}
use Rattle.items.specs.declared.Quantity.{Quantity}
use Rattle.kinds.specs.Meaning.{Meaning}
use Rattle.tables.specs.Contents.{Contents, Encounter, Place, places_from, value_of}
use Rattle.tables.specs.Starts.{turned, turned_at, next_at}
use Rattle.lists.specs.Held.{SameShowing}
use Rattle.lists.specs.declared.lent.Showing.{Showing}
use Rattle.std.proofs.Math.Seq.{drop-append_seam}
use Rattle.turning.specs.Turning.{places_of}

pub same-on : {V : Type 0} {a b c : Showing V} → SameShowing a b → SameShowing b c → SameShowing a c
same-on f s = record { a = s.a ∙ f.a; b = s.b ∙ f.b; pair = s.pair ∙ f.pair }

module _ {V : Type 0} where
  places-split : (k : ℕ) (xs ys : List (Quantity V)) → places_from k (xs ++ ys) ≡ places_from k xs ++ places_from (k + length xs) ys
  places-split k [] ys = let q : k ≡ k + 0 = omega arith in ap (λ n. places_from n ys) q
  places-split k (x ∷ xs) ys =
      let q : suc k + length xs ≡ k + suc (length xs) = omega arith in
      ap (λ ps. places_of k x x.scope ++ ps) (places-split (suc k) xs ys ∙ ap (λ n. places_from (suc k) xs ++ places_from n ys) q)
      ∙ sym (append_assoc (places_of k x x.scope) (places_from (suc k) xs) (places_from (k + suc (length xs)) ys))

module _ {V C R : Type 0} (m : Meaning V C) (c : Contents V C R) where
  -- turned values before others that were turned
  turned-after : (ps us : List (Place V)) (e x : Encounter V) → (false, x) ≡ turned m c us e → turned m c ps x ≡ turned m c (ps ++ us) e
  turned-after [] us e x h = h
  turned-after (p ∷ ps) us e x h = ap (λ s. cond s.0 s (turned_at m c p s (next_at m c p (value_of s.1 p)))) (turned-after ps us e x h)

  turned-stays : (ps us : List (Place V)) (e x : Encounter V) → (true, x) ≡ turned m c us e → (true, x) ≡ turned m c (ps ++ us) e
  turned-stays [] us e x h = h
  turned-stays (p ∷ ps) us e x h = ap (λ s. cond s.0 s (turned_at m c p s (next_at m c p (value_of s.1 p)))) (turned-stays ps us e x h)

  module _ (qs : List (Quantity V)) where
    abbrev pub on_from : ℕ → List (Place V)
    on_from i = places_from i (drop i qs)

    on-here : (i : ℕ) (q : Quantity V) → drop i qs ≡ q ∷ drop (i + 1) qs → on_from i ≡ places_of i q q.scope ++ on_from (i + 1)
    on-here i q h = ap (places_from i) h ∙ ap (λ k. places_of i q q.scope ++ places_from k (drop (i + 1) qs)) (sym (add-one i))

    -- the quantities ws that are left come before all others
    abbrev pub Before : List (Quantity V) → Type 0
    Before ws = ws ++ drop (length ws) qs ≡ qs

    module _ (ws us : List (Quantity V)) (q : Quantity V) (before : Before ws) (is : ws ≡ us ++ q ∷ []) where
      one : length ws ≡ length us + 1
      one = omega (arith, ap length is, length-append us (q ∷ []))

      before-it : us ++ q ∷ drop (length us + 1) qs ≡ qs
      before-it =
          sym (append_assoc us (q ∷ []) (drop (length us + 1) qs)) ∙ sym (ap (λ n. (us ++ q ∷ []) ++ drop n qs) one) ∙ sym (ap (λ l. l ++ drop (length ws) qs) is) ∙ before

      it : drop (length us) qs ≡ q ∷ drop (length us + 1) qs
      it = sym (ap (drop (length us)) before-it) ∙ drop-append_seam us (q ∷ drop (length us + 1) qs)

      pub turned-step : (e x y : Encounter V) {b t : Bool} → (false, x) ≡ turned m c (on_from (length ws)) e → (b, y) ≡ turned m c (places_of (length us) q q.scope) x → b ≡ t
          → Before us × ((t, y) ≡ turned m c (on_from (length us)) e)
      turned-step e x y rest at b = (
        ap (λ l. us ++ l) it ∙ before-it,
        ap (λ b. (b, y)) (sym b) ∙ at
            ∙ turned-after (places_of (length us) q q.scope) (on_from (length us + 1)) e x (rest ∙ ap (λ i. turned m c (on_from i) e) one)
            ∙ sym (ap (λ ps. turned m c ps e) (on-here (length us) q it)),
      )

    -- once a value has moved on, those before it stay
    pub turned-rest : (us : List (Quantity V)) (e x : Encounter V) → Before us → (true, x) ≡ turned m c (on_from (length us)) e → (true, x) ≡ turned m c (places_from 0 qs) e
    turned-rest us e x before is =
        let n : 0 + length us ≡ length us = omega arith in
        turned-stays (places_from 0 us) (on_from (length us)) e x is
        ∙ ap (λ ps. turned m c ps e) (sym (places-split 0 us (drop (length us) qs) ∙ ap (λ k. places_from 0 us ++ places_from k (drop (length us) qs)) n) ∙ ap (places_from 0) before)
