-- The questions of issue, one after the other. Assumes nothing.
use Rattle.std.proofs.Common.{◌≡◌, ℕ, Bool, true, false, cond, leb, not, ◌&&◌, ◌||◌, List, [], ◌∷◌, is_some, Some, None, Ok, Err, Option, Result, unwrap_or, sym, refl, ap, ◌∙◌, subst}
use Rattle.std.specs.Option.{option_map}
use Rattle.std.proofs.lemmas.Bool.{both_ways, or_parts, cond-true, cond-false, le-leb, lt-leb, cond_both}
use Rattle.faults.specs.declared.SheetFault.{SheetFault}
use Rattle.faults.specs.declared.SheetFault.TheVariants.{TooManyEncounters, AllBarred, Gap as GapFault, Asymmetry as AsymmetryFault}
use Rattle.kinds.specs.Meaning.{Meaning}
use Rattle.results.specs.Results.{Results}
use Rattle.tables.specs.Words.{first, or_else}
use Rattle.tables.specs.Contents.{Contents, Encounter, places, whole}
use Rattle.tables.specs.Outcomes.{Outcome, barred, gap, clash, answer, outcome, is_barred, is_gap, is_clash, symmetric}
use Rattle.tables.specs.Starts.{count, from_starts, reset}
use Rattle.tables.specs.Issues.{Issue, short_lists, too_many, all_barred, shown_gap, shown_asymmetry, accepted, answered, written, if_gap, if_clash, gap_at, clash_at, asymmetry_at, every_barred, examined, issue, limit}
use Rattle.seeking.proofs.Seeking.{ended_some, ended-none}
use Rattle.tables.proofs.Lists.{none-some, some_same}
use Rattle.starts.specs.Counted.{within_limit}
use Rattle.starts.proofs.Counting.{told_is, untold-is}
use Rattle.sets.specs.Walks.{first_of}
use Rattle.judging.specs.Sought.{open_in, gap_in, clash_in, asymmetry_in, fault_in}
use Rattle.seeking.specs.Seeks.{clash_fault, Found, Ended}

first_holds : {X : Type 0} (f : X → Bool) (xs : List X) (x : X) → first_of f xs ≡ Some x → f x ≡ true
first_holds f [] x e = none-some x e
first_holds f (y ∷ ys) x e = cond_both (f y) (Some y) (first_of f ys) (λ o. o ≡ Some x → f x ≡ true) (λ h k. sym (ap f (some_same y x k)) ∙ h) (λ h k. first_holds f ys x k) e

-- where nothing is that, nothing is what implies it
none-weaker : {X : Type 0} (f g : X → Bool) → ((x : X) → f x ≡ false → g x ≡ false) → (xs : List X) → first_of f xs ≡ None → first_of g xs ≡ None
none-weaker f g w [] e = refl
none-weaker f g w (x ∷ xs) e =
    cond_both (f x) (Some x) (first_of f xs) (λ o. o ≡ None → cond (g x) (Some x) (first_of g xs) ≡ None)
    (λ h k. none-some x (sym k)) (λ h k. cond-false (g x) (Some x) (first_of g xs) (w x h) ∙ none-weaker f g w xs k) e

not-if : {X : Type 0} (b t : Bool) (e : X) (o : Option X) → t ≡ not (is_some o) → (b && t) ≡ not (is_some (cond (not b) (Some e) o))
not-if true t e o h = h
not-if false t e o h = refl

module _ {V C R : Type 0} (m : Meaning V C) (r : Results R) (c : Contents V C R) where
  every-is : (es : List (Encounter V)) → every_barred m r c es ≡ not (is_some (first_of (open_in m r c) es))
  every-is [] = refl
  every-is (e ∷ es) = not-if (is_barred r (outcome m r c e)) (every_barred m r c es) e (first_of (open_in m r c) es) (every-is es)

  gap-if : (o : Outcome R) (e : Encounter V) {x : Option (Issue V)} (y : Option (Encounter V)) → x ≡ option_map shown_gap y → or_else (if_gap e o) x ≡ option_map shown_gap (cond (is_gap r o) (Some e) y)
  gap-if barred e y h = h
  gap-if gap e y h = refl
  gap-if (clash i j) e y h = h
  gap-if (answer x) e y h = h

  gap_is : (es : List (Encounter V)) → first (gap_at m r c) es ≡ option_map shown_gap (first_of (gap_in m r c) es)
  gap_is [] = refl
  gap_is (e ∷ es) = gap-if (outcome m r c e) e (first_of (gap_in m r c) es) (gap_is es)

  abbrev clash_on : Option (Encounter V) → Option (Issue V)
  clash_on None = None
  clash_on (Some e) = if_clash e (outcome m r c e)

  clash-if : (o : Outcome R) (e : Encounter V) {x : Option (Issue V)} (y : Option (Encounter V)) → outcome m r c e ≡ o → x ≡ clash_on y → or_else (if_clash e o) x ≡ clash_on (cond (is_clash r o) (Some e) y)
  clash-if barred e y is h = h
  clash-if gap e y is h = h
  clash-if (clash i j) e y is h = sym (ap (if_clash e) is)
  clash-if (answer x) e y is h = h

  clash-is : (es : List (Encounter V)) → first (clash_at m r c) es ≡ clash_on (first_of (clash_in m r c) es)
  clash-is [] = refl
  clash-is (e ∷ es) = clash-if (outcome m r c e) e (first_of (clash_in m r c) es) refl (clash-is es)

  asymmetry-if : (b : Bool) (e : Encounter V) {x : Option (Issue V)} (y : Option (Encounter V)) → x ≡ option_map shown_asymmetry y → or_else (cond b None (Some (shown_asymmetry e))) x ≡ option_map shown_asymmetry (cond (not b) (Some e) y)
  asymmetry-if true e y h = h
  asymmetry-if false e y h = refl

  asymmetry-is : (es : List (Encounter V)) → first (asymmetry_at m r c) es ≡ option_map shown_asymmetry (first_of (asymmetry_in m r c) es)
  asymmetry-is [] = refl
  asymmetry-is (e ∷ es) = asymmetry-if (symmetric m r c e) e (first_of (asymmetry_in m r c) es) (asymmetry-is es)

  -- the answer from the first of each that is sought
  abbrev decided : Option (Encounter V) → Option (Encounter V) → Option (Encounter V) → Option (Encounter V) → Issue V
  decided o g k a = cond (not (is_some o)) all_barred (unwrap_or (option_map shown_gap g) (unwrap_or (clash_on k) (unwrap_or (option_map shown_asymmetry a) (accepted (count m c)))))

  module _ (es : List (Encounter V)) where
    decided-is : examined m r c es ≡ decided (first_of (open_in m r c) es) (first_of (gap_in m r c) es) (first_of (clash_in m r c) es) (first_of (asymmetry_in m r c) es)
    decided-is =
        ap (λ b. cond b all_barred (unwrap_or (first (gap_at m r c) es) (unwrap_or (first (clash_at m r c) es) (unwrap_or (first (asymmetry_at m r c) es) (accepted (count m c)))))) (every-is es)
        ∙ ap (λ g. cond (not (is_some (first_of (open_in m r c) es))) all_barred (unwrap_or g (unwrap_or (first (clash_at m r c) es) (unwrap_or (first (asymmetry_at m r c) es) (accepted (count m c)))))) (gap_is es)
        ∙ ap (λ k. cond (not (is_some (first_of (open_in m r c) es))) all_barred (unwrap_or (option_map shown_gap (first_of (gap_in m r c) es)) (unwrap_or k (unwrap_or (first (asymmetry_at m r c) es) (accepted (count m c)))))) (clash-is es)
        ∙ ap (λ a. cond (not (is_some (first_of (open_in m r c) es))) all_barred (unwrap_or (option_map shown_gap (first_of (gap_in m r c) es)) (unwrap_or (clash_on (first_of (clash_in m r c) es)) (unwrap_or a (accepted (count m c)))))) (asymmetry-is es)

    settled : {o g k a : Option (Encounter V)} → first_of (open_in m r c) es ≡ o → first_of (gap_in m r c) es ≡ g → first_of (clash_in m r c) es ≡ k → first_of (asymmetry_in m r c) es ≡ a → examined m r c es ≡ decided o g k a
    settled {o} {g} {k} {a} ho hg hk ha =
        decided-is ∙ ap (λ o. decided o (first_of (gap_in m r c) es) (first_of (clash_in m r c) es) (first_of (asymmetry_in m r c) es)) ho
        ∙ ap (λ g. decided o g (first_of (clash_in m r c) es) (first_of (asymmetry_in m r c) es)) hg
        ∙ ap (λ k. decided o g k (first_of (asymmetry_in m r c) es)) hk
        ∙ ap (λ a. decided o g k a) ha

  abbrev FoundBy : Encounter V → Issue V → Encounter V → Issue V → Type 0
  FoundBy lent i e j = (i ≡ j) × (e ≡ written m r c lent j)

  found : (lent : Encounter V) (i j : Issue V) (e : Encounter V) → i ≡ j → e ≡ written m r c lent j → Found m r c lent i (answered j) e
  found lent i j e h w = record { answer = ap answered (sym h); writes = w ∙ ap (written m r c lent) (sym h) }

  clash-found : (lent : Encounter V) (o : Outcome R) (e : Encounter V) (d : Issue V) → is_clash r o ≡ true → (Err (clash_fault o) ≡ answered (unwrap_or (if_clash e o) d)) × (e ≡ written m r c lent (unwrap_or (if_clash e o) d))
  clash-found lent barred e d h = absurd (both_ways false refl h)
  clash-found lent gap e d h = absurd (both_ways false refl h)
  clash-found lent (clash i j) e d h = (refl, refl)
  clash-found lent (answer x) e d h = absurd (both_ways false refl h)

  module _ (lent : Encounter V) where
    abbrev es : List (Encounter V)
    es = from_starts m c lent

    abbrev least : Encounter V
    least = reset m c (places c) lent

    abbrev pub Sought : (Encounter V → Bool) → Bool → Encounter V → Type 0
    Sought f b e = Ended m c f es least b e

    some : {f : Encounter V → Bool} {b : Bool} {e : Encounter V} → Sought f b e → b ≡ true → first_of f es ≡ Some e
    some {f} {b} {e} h there = ended_some (first_of f es) b e least h.told h.shows there

    none : {f : Encounter V → Bool} {b : Bool} {e : Encounter V} → Sought f b e → b ≡ false → (first_of f es ≡ None) × (e ≡ least)
    none {f} {b} {e} h gone = ended-none (first_of f es) b e least h.told h.shows gone

    pub barred-found : {b : Bool} {e : Encounter V} → Sought (open_in m r c) b e → b ≡ false → Found m r c lent (examined m r c es) (Err AllBarred) e
    barred-found {b} {e} h gone =
        found lent (examined m r c es) all_barred e (settled es (none h gone).0 refl refl refl) (none h gone).1

    pub gap-found : {b t : Bool} {x e : Encounter V} → Sought (open_in m r c) b x → b ≡ true → Sought (gap_in m r c) t e → t ≡ true → Found m r c lent (examined m r c es) (Err GapFault) e
    gap-found {e = e} h there k is = found lent (examined m r c es) (shown_gap e) e (settled es (some h there) (some k is) refl refl) refl

    pub clash-shown : {b t u : Bool} {x y e : Encounter V} {f : SheetFault} → Sought (open_in m r c) b x → b ≡ true → Sought (gap_in m r c) t y → t ≡ false → Sought (clash_in m r c) u e → u ≡ true
        → f ≡ clash_fault (outcome m r c e) → Found m r c lent (examined m r c es) (Err f) e
    clash-shown {e = e} h there k gone l is named =
        let d : Issue V = unwrap_or (option_map shown_asymmetry (first_of (asymmetry_in m r c) es)) (accepted (count m c)) in
        let at : examined m r c es ≡ unwrap_or (if_clash e (outcome m r c e)) d = settled es (some h there) (none k gone).0 (some l is) refl in
        let t = clash-found lent (outcome m r c e) e d (first_holds (clash_in m r c) es e (some l is)) in
        record { answer = ap Err named ∙ t.0 ∙ sym (ap answered at); writes = t.1 ∙ sym (ap (written m r c lent) at) }

    pub asymmetry-found : {b t u v : Bool} {x y z e : Encounter V} → Sought (open_in m r c) b x → b ≡ true → Sought (gap_in m r c) t y → t ≡ false → Sought (clash_in m r c) u z → u ≡ false
        → Sought (asymmetry_in m r c) v e → v ≡ true → Found m r c lent (examined m r c es) (Err AsymmetryFault) e
    asymmetry-found {e = e} h there k gone l out a is = found lent (examined m r c es) (shown_asymmetry e) e (settled es (some h there) (none k gone).0 (none l out).0 (some a is)) refl

    no-fault : {t : Bool} {e : Encounter V} → Sought (fault_in m r c) t e → t ≡ false → (first_of (gap_in m r c) es ≡ None) × (first_of (clash_in m r c) es ≡ None) × (first_of (asymmetry_in m r c) es ≡ None)
    no-fault k gone =
        let n = (none k gone).0 in
        let parts : (x : Encounter V) → fault_in m r c x ≡ false → (gap_in m r c x ≡ false) × (clash_in m r c x ≡ false) × (asymmetry_in m r c x ≡ false) = λ x h.
        let one = or_parts (gap_in m r c x) (clash_in m r c x || asymmetry_in m r c x) h in
        let two = or_parts (clash_in m r c x) (asymmetry_in m r c x) one.1 in
        (one.0, two.0, two.1) in (
          none-weaker (fault_in m r c) (gap_in m r c) (λ x h. (parts x h).0) es n,
          none-weaker (fault_in m r c) (clash_in m r c) (λ x h. (parts x h).1) es n,
          none-weaker (fault_in m r c) (asymmetry_in m r c) (λ x h. (parts x h).2) es n,
        )

    -- one way through all of them, on which there is no fault
    pub faultless-found : {b t : Bool} {x e : Encounter V} (n : ℕ) → n ≡ count m c → Sought (open_in m r c) b x → b ≡ true → Sought (fault_in m r c) t e → t ≡ false → Found m r c lent (examined m r c es) (Ok n) e
    faultless-found {e = e} n is h there k gone =
        let f = no-fault k gone in
        subst (λ n. Found m r c lent (examined m r c es) (Ok n) e) (sym is)
        (found lent (examined m r c es) (accepted (count m c)) e (settled es (some h there) f.0 f.1 f.2) (none k gone).1)

    pub none_found : {b t u v : Bool} {x y z e : Encounter V} (n : ℕ) → n ≡ count m c → Sought (open_in m r c) b x → b ≡ true → Sought (gap_in m r c) t y → t ≡ false → Sought (clash_in m r c) u z → u ≡ false
        → Sought (asymmetry_in m r c) v e → v ≡ false → Found m r c lent (examined m r c es) (Ok n) e
    none_found {e = e} n is h there k gone l out a end =
        subst (λ n. Found m r c lent (examined m r c es) (Ok n) e) (sym is)
        (found lent (examined m r c es) (accepted (count m c)) e (settled es (some h there) (none k gone).0 (none l out).0 (none a end).0) (none a end).1)

  -- whole lists, and a count within the limit or past it
  module _ (lent : Encounter V) (w : whole lent ≡ true) where
    pub counted-found : {n : ℕ} {t : Result ℕ SheetFault} {e : Encounter V} → Some n ≡ within_limit (count m c) → Found m r c lent (examined m r c (from_starts m c lent)) t e → Found m r c lent (issue m r c lent) t e
    counted-found {n} {t} {e} told h =
        let few = le-leb (count m c) limit (told_is n (count m c) told).1 in
        let all = examined m r c (from_starts m c lent) in
        let is : issue m r c lent ≡ all = cond-true (whole lent) (cond (leb (count m c) limit) all too_many) short_lists w ∙ cond-true (leb (count m c) limit) all too_many few in
        subst (λ i. Found m r c lent i t e) (sym is) h

    pub uncounted-found : None ≡ within_limit (count m c) → Found m r c lent (issue m r c lent) (Err TooManyEncounters) lent
    uncounted-found untold =
        let many = lt-leb (count m c) limit (untold-is (count m c) untold) in
        let all = examined m r c (from_starts m c lent) in
        found lent (issue m r c lent) too_many lent
        (cond-true (whole lent) (cond (leb (count m c) limit) all too_many) short_lists w ∙ cond-false (leb (count m c) limit) all too_many many) refl
