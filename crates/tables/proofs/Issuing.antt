-- What issue answers is so of all encounters in range. Assumes nothing.
use Rattle.std.proofs.Common.{◌≡◌, ℕ, ◌≤◌, true, false, leb, ◌⊎◌, List, [], ◌∷◌, Some, None, Decides, Option, sym, refl, ap, ◌∙◌, subst, inl, inr, arith}
use Rattle.std.specs.List.{AllByRecursion}
use Rattle.std.proofs.ByRecursion.{All-weaker}
use Rattle.std.proofs.lemmas.Bool.{cond_both, leb-true, leb-false, and_parts, and_cases, false≢true, true≢false}
use Rattle.kinds.specs.Meaning.{Meaning, Lawful}
use Rattle.results.specs.Results.{Results, Equal}
use Rattle.tables.specs.Contents.{Contents, Encounter, InRange, whole, exchange}
use Rattle.tables.specs.Acceptance.{Acceptable}
use Rattle.tables.specs.Outcomes.{Outcome, barred, gap, clash, answer, outcome, is_barred, answers, alike, symmetric}
use Rattle.tables.specs.Starts.{count, from_starts}
use Rattle.tables.specs.Issues.{Issue, short_lists, too_many, all_barred, shown_gap, shown_clash, shown_asymmetry, accepted, refused, limit, if_gap, if_clash, gap_at, clash_at, asymmetry_at, every_barred, examined, issue}
use Rattle.tables.specs.Faultless.{EachInRange, SomeInRange, NoneInRange, Barred, Unbarred, Gap, Clash, Asymmetry, Faulty, Faultless}
use Rattle.tables.specs.Issued.{Earliest, Searched, Says, IssuedRightly}
use Rattle.tables.proofs.Lists.{none-some, some_same, all_any, cut-here, cut-weaker, FirstBy, first-or}
use Rattle.tables.proofs.Bridging.{bridge}
use Rattle.tables.proofs.Making.{made-of-starts}
use Rattle.tables.proofs.Agreeing.{met-agree, any-two-agree}
use Rattle.tables.proofs.Leaving.{leaves}

abbrev IsClash : {R : Type 0} → Outcome R → Type 0
IsClash o = (i : ℕ) × ((j : ℕ) × (o ≡ clash i j))

module _ {R : Type 0} (r : Results R) where
  barred-is : (o : Outcome R) → is_barred r o ≡ true → o ≡ barred
  barred-is barred h = refl
  barred-is gap h = absurd (false≢true h)
  barred-is (clash i j) h = absurd (false≢true h)
  barred-is (answer x) h = absurd (false≢true h)

  answer-is : (x : R) (o : Outcome R) → answers r x o ≡ true → (y : R) × ((o ≡ answer y) × (r.same x y ≡ true))
  answer-is x barred h = absurd (false≢true h)
  answer-is x gap h = absurd (false≢true h)
  answer-is x (clash i j) h = absurd (false≢true h)
  answer-is x (answer y) h = (y, (refl, h))

  settles : (o : Outcome R) → (o ≡ gap → ⊥) → (IsClash o → ⊥) → (o ≡ barred) ⊎ ((y : R) × (o ≡ answer y))
  settles barred g k = inl refl
  settles gap g k = absurd (g refl)
  settles (clash i j) g k = absurd (k (i, (j, refl)))
  settles (answer y) g k = inr (y, refl)

module _ {V C R : Type 0} (m : Meaning V C) (law : Lawful m) (r : Results R) (eq : Equal r) (c : Contents V C R) (ok : Acceptable m r c) (lent : Encounter V) where
  abbrev out : Encounter V → Outcome R
  out e = outcome m r c e

  abbrev back : Encounter V → Outcome R
  back e = out (exchange c e)

  faultless : SomeInRange m r c (Unbarred m r c) → NoneInRange m r c (Gap m r c) → NoneInRange m r c (Clash m r c) → EachInRange m r c (λ e. symmetric m r c e ≡ true) → Faultless m r c
  faultless some g k s = record {
    not_all_barred = some;
    settled = λ e h. settles r (out e) (g e h) (k e h);
    agreed = λ e h x a. met-agree m r eq c e x a;
    same_result = λ e h x a. any-two-agree m r eq c e x a;
    still_barred = λ e h b. barred-is r (back e) (subst (λ o. alike r o (back e) ≡ true) b (s e h));
    still_answered = λ e h x a. answer-is r x (back e) (subst (λ o. alike r o (back e) ≡ true) a (s e h));
  }

  -- what one encounter shows, or does not
  gap-some : (e : Encounter V) (o : Outcome R) (y : Issue V) → if_gap e o ≡ Some y → (o ≡ gap) × (shown_gap e ≡ y)
  gap-some e barred y k = none-some y k
  gap-some e gap y k = (refl, some_same (shown_gap e) y k)
  gap-some e (clash i j) y k = none-some y k
  gap-some e (answer x) y k = none-some y k

  clash-some : (e : Encounter V) (o : Outcome R) (y : Issue V) → if_clash e o ≡ Some y → (i : ℕ) × ((j : ℕ) × ((o ≡ clash i j) × (shown_clash e i j ≡ y)))
  clash-some e barred y k = none-some y k
  clash-some e gap y k = none-some y k
  clash-some e (clash i j) y k = (i, (j, (refl, some_same (shown_clash e i j) y k)))
  clash-some e (answer x) y k = none-some y k

  asymmetry-some : (e : Encounter V) (y : Issue V) → asymmetry_at m r c e ≡ Some y → Asymmetry m r c e × (shown_asymmetry e ≡ y)
  asymmetry-some e y k =
      cond_both (symmetric m r c e) None (Some (shown_asymmetry e)) (λ o. o ≡ Some y → Asymmetry m r c e × (shown_asymmetry e ≡ y))
      (λ _ k. none-some y k) (λ f k. (f, some_same (shown_asymmetry e) y k)) k

  gap-none : (e : Encounter V) → gap_at m r c e ≡ None → Gap m r c e → ⊥
  gap-none e h g = none-some (shown_gap e) (sym h ∙ ap (if_gap e) g)

  clash-none : (e : Encounter V) → clash_at m r c e ≡ None → Clash m r c e → ⊥
  clash-none e h k = none-some (shown_clash e k.0 k.1.0) (sym h ∙ ap (if_clash e) k.1.1)

  symmetric-by : (e : Encounter V) → asymmetry_at m r c e ≡ None → symmetric m r c e ≡ true
  symmetric-by e h = cond_both (symmetric m r c e) None (Some (shown_asymmetry e)) (λ o. o ≡ None → symmetric m r c e ≡ true) (λ t _. t) (λ _ k. none-some (shown_asymmetry e) (sym k)) h

  every-barred : (es : List (Encounter V)) → every_barred m r c es ≡ true → AllByRecursion (Barred m r c) es
  every-barred [] h = tt
  every-barred (e ∷ es) h = let b = and_parts (is_barred r (out e)) (every_barred m r c es) h in (barred-is r (out e) b.0, every-barred es b.1)

  some-unbarred : (es : List (Encounter V)) → AllByRecursion (InRange m c) es → every_barred m r c es ≡ false → SomeInRange m r c (Unbarred m r c)
  some-unbarred [] a h = absurd (true≢false h)
  some-unbarred (e ∷ es) a h = elim (and_cases (is_barred r (out e)) (every_barred m r c es) h) [ inl f ↦ (e, (a.0, f)) | inr f ↦ some-unbarred es a.1 f ]

  module _ (s : Searched m r c lent) where
    abbrev es : List (Encounter V)
    es = from_starts m c lent

    all_in : AllByRecursion (InRange m c) es
    all_in = (made-of-starts m law r c ok lent s.lengths).1

    -- what holds of all that are made of starts, by their outcomes, holds of all in range
    carried : (P : Outcome R → Outcome R → Type 0) → AllByRecursion (λ s. P (out s) (back s)) es → EachInRange m r c (λ e. P (out e) (back e))
    carried P a e h =
        let t = all_any (λ s. P (out s) (back s)) (λ s. (out s ≡ out e) × (back s ≡ back e)) es a (bridge m law r c ok e lent h s.lengths) in
        subst (λ o. P o (back e)) t.1.1.0 (subst (P (out t.0)) t.1.1.1 t.1.0)

    earliest : (P : Encounter V → Type 0) (f : Encounter V → Option (Issue V)) → ((e : Encounter V) → f e ≡ None → P e → ⊥) → ((e : Encounter V) (y : Issue V) → f e ≡ Some y → P e) → (k : FirstBy f es) → Earliest m r c lent P k.here
    earliest P f none some k = record {
      in_range = cut-here (λ e. f e ≡ None) (λ e. (y : Issue V) × (f e ≡ Some y)) (InRange m c) es all_in k;
      cut = cut-weaker (λ e. f e ≡ None) (λ e. (y : Issue V) × (f e ≡ Some y)) (λ e. P e → ⊥) P none (λ e h. some e h.0 h.1) es k;
      shown = refl;
    }

    examined-says : Says m r c lent (examined m r c es)
    examined-says =
        cond_both (every_barred m r c es) all_barred _ (Says m r c lent)
        (λ t. (s, carried (λ o _. o ≡ barred) (every-barred es t)))
        (λ f. let some = some-unbarred es all_in f in
        first-or (Says m r c lent) (gap_at m r c) _ es
        (λ k. let e = k.here in
        subst (Says m r c lent) (gap-some e (out e) k.found.0 k.found.1).1 (s, some, earliest (Gap m r c) (gap_at m r c) gap-none (λ e y h. (gap-some e (out e) y h).0) k))
        (λ gs. let no_gap : NoneInRange m r c (Gap m r c) = carried (λ o _. o ≡ gap → ⊥) (All-weaker (λ e. gap_at m r c e ≡ None) (λ e. Gap m r c e → ⊥) gap-none es gs) in
        first-or (Says m r c lent) (clash_at m r c) _ es
        (λ k. let e = k.here in
        let t = clash-some e (out e) k.found.0 k.found.1 in
        subst (Says m r c lent) t.1.1.1 (s, some, no_gap, earliest (Clash m r c) (clash_at m r c) clash-none (λ e y h. let u = clash-some e (out e) y h in (u.0, (u.1.0, u.1.1.0))) k, t.1.1.0))
        (λ ks. let no-clash : NoneInRange m r c (Clash m r c) = carried (λ o _. IsClash o → ⊥) (All-weaker (λ e. clash_at m r c e ≡ None) (λ e. Clash m r c e → ⊥) clash-none es ks) in
        first-or (Says m r c lent) (asymmetry_at m r c) (accepted (count m c)) es
        (λ k. subst (Says m r c lent) (asymmetry-some k.here k.found.0 k.found.1).1
        (s, some, no_gap, no-clash, earliest (Asymmetry m r c) (asymmetry_at m r c) (λ e h a. true≢false (sym (symmetric-by e h) ∙ a)) (λ e y h. (asymmetry-some e y h).0) k))
        (λ us. (s, refl, faultless some no_gap no-clash (carried (λ o x. alike r o x ≡ true) (All-weaker (λ e. asymmetry_at m r c e ≡ None) (λ e. symmetric m r c e ≡ true) symmetric-by es us)))))))

  pub issue-says : Says m r c lent (issue m r c lent)
  issue-says =
      cond_both (whole lent) _ short_lists (Says m r c lent)
      (λ w. cond_both (leb (count m c) limit) (examined m r c (from_starts m c lent)) too_many (Says m r c lent)
      (λ l. examined-says (record { lengths = w; few = leb-true (count m c) limit l })) (λ f. (w, leb-false (count m c) limit f)))
      (λ f. f)

  has-fault : (P : Encounter V → Type 0) (e : Encounter V) → Earliest m r c lent P e → SomeInRange m r c P
  has-fault P e x = (e, (x.in_range, subst P x.shown x.cut.found))

  widen : (P Q : Encounter V → Type 0) → ((e : Encounter V) → P e → Q e) → SomeInRange m r c P → SomeInRange m r c Q
  widen P Q f x = (x.0, (x.1.0, f x.0 x.1.1))

  abbrev Fault : Encounter V → Type 0
  Fault e = Gap m r c e ⊎ (Clash m r c e ⊎ Asymmetry m r c e)

  no-fault : Faultless m r c → (e : Encounter V) → InRange m c e → (Barred m r c e ⊎ ((x : R) × (out e ≡ answer x))) → Fault e → ⊥
  no-fault t e h (inl b) (inl g) = let z : ◌≡◌ {A = ℕ} 0 1 = cc in omega arith
  no-fault t e h (inl b) (inr (inl k)) = let q : out e ≡ clash k.0 k.1.0 = k.1.1 in let z : ◌≡◌ {A = ℕ} 0 1 = cc in omega arith
  no-fault t e h (inl b) (inr (inr u)) = let p : symmetric m r c e ≡ true = subst (λ o. alike r o (back e) ≡ true) (sym b) (ap (is_barred r) (t.still_barred e h b)) in true≢false (sym p ∙ u)
  no-fault t e h (inr a) (inl g) = let q : out e ≡ answer a.0 = a.1 in let z : ◌≡◌ {A = ℕ} 0 1 = cc in omega arith
  no-fault t e h (inr a) (inr (inl k)) = let q : out e ≡ clash k.0 k.1.0 = k.1.1 in let p : out e ≡ answer a.0 = a.1 in let z : ◌≡◌ {A = ℕ} 0 1 = cc in omega arith
  no-fault t e h (inr a) (inr (inr u)) =
      let y = t.still_answered e h a.0 a.1 in
      let p : symmetric m r c e ≡ true = subst (λ o. alike r o (back e) ≡ true) (sym a.1) (ap (answers r a.0) y.1.0 ∙ y.1.1) in
      true≢false (sym p ∙ u)

  sound : Faultless m r c → Faulty m r c → ⊥
  sound t (inl b) = let o = t.not_all_barred in true≢false (sym (ap (is_barred r) (b o.0 o.1.0)) ∙ o.1.1)
  sound t (inr f) = no-fault t f.0 f.1.0 (t.settled f.0 f.1.0) f.1.1

  exactly-by : (i : Issue V) → Says m r c lent i → whole lent ≡ true → count m c ≤ limit → Decides (refused i) (Faulty m r c)
  exactly-by short_lists s w l = absurd (false≢true (sym s ∙ w))
  exactly-by too_many s w l = absurd (omega (arith, s.1))
  exactly-by all_barred s w l = ((λ _. inl s.1), λ _. refl)
  exactly-by (shown_gap e) s w l = ((λ _. inr (widen (Gap m r c) Fault (λ e g. inl g) (has-fault (Gap m r c) e s.2))), λ _. refl)
  exactly-by (shown_clash e i j) s w l = ((λ _. inr (widen (Clash m r c) Fault (λ e k. inr (inl k)) (has-fault (Clash m r c) e s.3))), λ _. refl)
  exactly-by (shown_asymmetry e) s w l = ((λ _. inr (widen (Asymmetry m r c) Fault (λ e a. inr (inr a)) (has-fault (Asymmetry m r c) e s.4))), λ _. refl)
  exactly-by (accepted n) s w l = ((λ t. absurd (false≢true t)), λ f. absurd (sound s.2 f))

  pub issued-rightly : IssuedRightly m r c lent
  issued-rightly = record { says = issue-says; exactly = exactly-by (issue m r c lent) issue-says; leaves = leaves m law r c ok lent (issue m r c lent) issue-says }
