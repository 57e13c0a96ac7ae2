-- Look-up by its questions one by one. Assumes nothing.
use Rattle.std.proofs.Common.{◌≡◌, ℕ, suc, Bool, true, false, cond, List, [], ◌∷◌, ◌++◌, map, Some, None, Ok, Err, Option, Result, unwrap_or, sym, refl, ap, ◌∙◌, ap₂}
use Rattle.kinds.specs.Meaning.{Meaning}
use Rattle.faults.specs.declared.LookupFault.{LookupFault}
use Rattle.faults.specs.declared.LookupFault.TheVariants.{OutOfRange}
use Rattle.faults.specs.declared.SheetFault.{SheetFault}
use Rattle.faults.specs.declared.SheetFault.TheVariants.{EncounterLists, Lists as ListsFault}
use Rattle.items.specs.declared.Counts.{Counts}
use Rattle.items.specs.declared.Side.{Side}
use Rattle.items.specs.declared.Quantity.{Quantity}
use Rattle.results.specs.Results.{Results}
use Rattle.tables.specs.Words.{or_else, first}
use Rattle.tables.specs.Contents.{Contents, Encounter, Place, places_from, places, sides, value_at, whole, within}
use Rattle.tables.specs.Outcomes.{Outcome, barred, gap, clash, answer, outcome}
use Rattle.tables.specs.Lookups.{Look, short_for, no_result, outside_at, by_outcome, look_up, told}
use Rattle.tables.specs.Answers.{look_up_answer}
use Rattle.tables.specs.Storage.{Lists, contents_of, in_order}
use Rattle.lookups.specs.Steps.{before, asked_at, asked_in, asked_from, outcome_told, raised}

module _ {V C R : Type 0} (m : Meaning V C) (r : Results R) (c : Contents V C R) (e : Encounter V) where
  -- what the first value out of range is told as
  abbrev shown_at : Place V → Look R
  shown_at p = no_result (OutOfRange p.side p.number)

  abbrev here : ℕ → Quantity V → Side → Place V
  here i q s = record { side = s; number = i; quantity = q }

  abbrev judged : Bool → Side → ℕ → Result (Unit {0}) LookupFault
  judged b s i = cond b (Ok tt) (Err (OutOfRange s i))

  -- one value more
  one : (q : Quantity V) (i : ℕ) (s : Side) (rest : Option (Look R)) (y : Result R LookupFault) (t : Result (Unit {0}) LookupFault) (l : Look R)
      → told (unwrap_or rest l) ≡ raised (before t y)
      → told (unwrap_or (or_else (outside_at m r c e (here i q s)) rest) l) ≡ raised (before (before (asked_at m e q s i) t) y)
  one q i s rest y t l h = by (within m q (value_at e s i))
    where
      by : (b : Bool) → told (unwrap_or (or_else (cond b None (Some (shown_at (here i q s)))) rest) l) ≡ raised (before (before (judged b s i) t) y)
      by true = h
      by false = refl

  before-before : (x t u : Result (Unit {0}) LookupFault) → before (before x t) u ≡ before x (before t u)
  before-before (Ok _) t u = refl
  before-before (Err f) t u = refl

  some : (q : Quantity V) (i : ℕ) (ss : List Side) (ps : List (Place V)) (y : Result R LookupFault) (t : Result (Unit {0}) LookupFault) (l : Look R)
      → told (unwrap_or (first (outside_at m r c e) ps) l) ≡ raised (before t y)
      → told (unwrap_or (first (outside_at m r c e) (map (here i q) ss ++ ps)) l) ≡ raised (before (before (asked_in m e q i ss) t) y)
  some q i [] ps y t l h = h
  some q i (s ∷ ss) ps y t l h =
      one q i s (first (outside_at m r c e) (map (here i q) ss ++ ps)) y (before (asked_in m e q i ss) t) l (some q i ss ps y t l h)
      ∙ ap (λ o. raised (before o y)) (sym (before-before (asked_at m e q s i) (asked_in m e q i ss) t))

  all : (i : ℕ) (qs : List (Quantity V)) (y : Result R LookupFault) (l : Look R) → told l ≡ raised y
      → told (unwrap_or (first (outside_at m r c e) (places_from i qs)) l) ≡ raised (before (asked_from m e i qs) y)
  all i [] y l h = h
  all i (q ∷ qs) y l h = some q i (sides q.scope) (places_from (suc i) qs) y (asked_from m e (suc i) qs) l (all (suc i) qs y l h)

  told_of : (o : Outcome R) → told (by_outcome o) ≡ raised (outcome_told o)
  told_of barred = refl
  told_of gap = refl
  told_of (clash i j) = refl
  told_of (answer x) = refl

  -- look-up by its questions one by one
  abbrev pub found : Result R LookupFault
  found = before (asked_from m e 0 c.quantities) (outcome_told (outcome m r c e))

  pub told-long : whole e ≡ true → told (look_up m r c e) ≡ raised found
  told-long h =
      ap (λ b. told (cond b (unwrap_or (first (outside_at m r c e) (places c)) (by_outcome (outcome m r c e))) short_for)) h
      ∙ all 0 c.quantities (outcome_told (outcome m r c e)) (by_outcome (outcome m r c e)) (told_of (outcome m r c e))

  pub told-short : whole e ≡ false → told (look_up m r c e) ≡ Err EncounterLists
  told-short h = ap (λ b. told (cond b (unwrap_or (first (outside_at m r c e) (places c)) (by_outcome (outcome m r c e))) short_for)) h

-- after the first question
module _ {V C R : Type 0} (m : Meaning V C) (r : Results R) (e : Encounter V) where
  pub answer-first : (n k : Counts) (l d : Lists V C R) → k ≡ n → d ≡ l → in_order m r n l ≡ true → told (look_up m r (contents_of k d) e) ≡ look_up_answer m r n l e
  answer-first n k l d p q h =
      ap₂ (λ k d. told (look_up m r (contents_of k d) e)) p q ∙ sym (ap (λ b. cond b (told (look_up m r (contents_of n l) e)) (Err ListsFault)) h)

  pub refused-first : (n : Counts) (l : Lists V C R) → in_order m r n l ≡ false → ◌≡◌ {A = Result R SheetFault} (Err ListsFault) (look_up_answer m r n l e)
  refused-first n l h = sym (ap (λ b. cond b (told (look_up m r (contents_of n l) e)) (Err ListsFault)) h)
