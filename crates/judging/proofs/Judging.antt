-- What a set gives is what the sheet says of an encounter that meets it. Assumes nothing.
use Rattle.std.proofs.Common.{◌≡◌, ℕ, ◌<◌, ◌≤◌, ◌^◌, true, cond, not, ◌&&◌, ◌||◌, length, length-take, refl, sym, ap, ap₂, ◌∙◌, arith, inl, inr, w32}
use Rattle.std.proofs.lemmas.Bool.{cases_eq, eq-eqb, ne_eqb}
use Rattle.std.specs.Int.{trailing_zeros}
use Rattle.std.specs.List.{slice_get}
use Rattle.std.proofs.lemmas.Nat.{and_le_r}
use Rattle.kinds.specs.Meaning.{Meaning}
use Rattle.kinds.specs.declared.Kind.{Ghosts}
use Rattle.results.specs.Results.{Results, Equal}
use Rattle.tables.specs.Contents.{Encounter, exchange}
use Rattle.tables.specs.Outcomes.{Outcome, barred, gap, clash, answer, columns_met, judged, outcome, alike, symmetric, is_barred, is_gap, is_clash}
use Rattle.tables.specs.Storage.{columns_from}
use Rattle.lists.specs.Held.{seen}
use Rattle.sets.specs.declared.Met.{Met}
use Rattle.judging.specs.declared.judge.Judge.{Judge}
use Rattle.judging.specs.Judged.{has_never, columns_of, set_outcome, results_of, Unlike, Meets, MeetsBoth, open_by, gap_by, clash_by, asymmetry_by, fault_by}
use Rattle.judging.specs.Sought.{open_in, gap_in, clash_in, asymmetry_in, fault_in}
use Rattle.judging.proofs.InSet.{columns-below, columns-in_set, nevers-in_set}
use Rattle.judging.proofs.Lowest.{judged-lowest}

module _ {K R V C : Type 0} {k : Ghosts K V C} (m : Meaning V C) (r : Results R) (equal : Equal r) (j : Judge K R V C k) (un : Unlike r j) where
  pub by_set : (s : ℕ) (e : Encounter V) → Meets m j.view.now s e → outcome m r (seen j.view.now) e ≡ set_outcome r j s
  by_set s e h =
      let v = j.view.now in
      let ws = (seen v).rows in
      let xs = results_of j in
      let d = (seen v).default in
      let u = columns_of s in
      let long : length xs ≡ v.counts.columns = omega (arith, length-take v.counts.columns v.results.now, v.few.columns, v.all_results) in
      let few : length xs ≤ 16 = omega (arith, long, v.few.columns) in
      let below = λ (i : ℕ) (out : length xs ≤ i). columns-below m ws e v.entries.now v.counts.rows v.counts v.few s h i (omega (arith, long, out)) in
      let fits : u < 2 ^ 32 = omega (arith, and_le_r s 65535) in
      let columns = sym (columns-in_set m ws e v.entries.now v.counts.rows v.counts v.few s h xs (omega (arith, long))) in
      ap (λ b. cond b barred (judged r d (columns_met m 0 ws (columns_from v.entries.now v.counts.rows 0 xs) e))) (nevers-in_set m ws e v.entries.now v.counts.rows v.counts v.few s h)
      ∙ ap (λ ks. cond (has_never s) barred (judged r d ks)) columns
      ∙ ap (λ o. cond (has_never s) barred o) (judged-lowest r equal.itself xs few j.unlike un u fits below d (slice_get xs (trailing_zeros w32 u)) refl)

  -- outcomes that are the same are alike
  alike-itself : (o : Outcome R) → alike r o o ≡ true
  alike-itself barred = refl
  alike-itself gap = refl
  alike-itself (clash i n) = refl
  alike-itself (answer x) = equal.itself x

  pub symmetric-by_set : (s : Met) (e : Encounter V) → s.here ≡ s.exchanged → MeetsBoth m j.view.now s e → symmetric m r (seen j.view.now) e ≡ true
  symmetric-by_set s e same h =
      let there = exchange (seen j.view.now) e in
      ap₂ (alike r) (by_set s.here e h.here ∙ ap (set_outcome r j) same) (by_set s.exchanged there h.exchanged)
      ∙ alike-itself (set_outcome r j s.exchanged)

  -- what the sets tell is what holds of the encounter that meets them
  pub open_tells : (s : Met) (e : Encounter V) → MeetsBoth m j.view.now s e → open_by r j s ≡ open_in m r (seen j.view.now) e
  open_tells s e h = ap (λ o. not (is_barred r o)) (sym (by_set s.here e h.here))

  pub gap_tells : (s : Met) (e : Encounter V) → MeetsBoth m j.view.now s e → gap_by r j s ≡ gap_in m r (seen j.view.now) e
  gap_tells s e h = ap (is_gap r) (sym (by_set s.here e h.here))

  pub clash_tells : (s : Met) (e : Encounter V) → MeetsBoth m j.view.now s e → clash_by r j s ≡ clash_in m r (seen j.view.now) e
  clash_tells s e h = ap (is_clash r) (sym (by_set s.here e h.here))

  pub asymmetry_tells : (s : Met) (e : Encounter V) → MeetsBoth m j.view.now s e → asymmetry_by r j s ≡ asymmetry_in m r (seen j.view.now) e
  asymmetry_tells s e h = elim (cases_eq s.here s.exchanged) [
    | inl same ↦ ap (λ b. not b && not (alike r (set_outcome r j s.here) (set_outcome r j s.exchanged))) (eq-eqb s.here s.exchanged same)
        ∙ sym (ap not (symmetric-by_set s e same h))
    | inr differ ↦ ap (λ b. not b && not (alike r (set_outcome r j s.here) (set_outcome r j s.exchanged))) (ne_eqb s.here s.exchanged differ)
        ∙ sym (ap₂ (λ o u. not (alike r o u)) (by_set s.here e h.here) (by_set s.exchanged (exchange (seen j.view.now) e) h.exchanged))
  ]

  pub fault_tells : (s : Met) (e : Encounter V) → MeetsBoth m j.view.now s e → fault_by r j s ≡ fault_in m r (seen j.view.now) e
  fault_tells s e h = ap₂ (λ a b. a || b) (gap_tells s e h) (ap₂ (λ a b. a || b) (clash_tells s e h) (asymmetry_tells s e h))
