-- What the encounter lists hold after issue. Assumes nothing.
use Rattle.std.proofs.Common.{◌≡◌, true, refl, subst}
use Rattle.std.specs.List.{AllByRecursion}
use Rattle.kinds.specs.Meaning.{Meaning, Lawful}
use Rattle.results.specs.Results.{Results}
use Rattle.tables.specs.Contents.{Contents, Encounter, places, value_at, whole}
use Rattle.tables.specs.Acceptance.{Acceptable}
use Rattle.tables.specs.Starts.{from_starts, reset}
use Rattle.tables.specs.Issues.{Issue, short_lists, too_many, all_barred, shown_gap, shown_clash, shown_asymmetry, accepted, written}
use Rattle.tables.specs.Faultless.{Gap, Clash, Asymmetry}
use Rattle.tables.specs.Issued.{Earliest, Says, Unneeded, AtLeast, Leaves}
use Rattle.tables.proofs.Lists.{cut-here}
use Rattle.tables.proofs.Keeping.{untouched, choices-keep, choices-whole, reset-keep, reset-whole}
use Rattle.tables.proofs.Searching.{one_by_one}

module _ {V C R : Type 0} (m : Meaning V C) (law : Lawful m) (r : Results R) (c : Contents V C R) (ok : Acceptable m r c) (lent : Encounter V) where
  shown-keeps : (P : Encounter V → Type 0) (e : Encounter V) → whole lent ≡ true → Earliest m r c lent P e → Unneeded m r c lent e
  shown-keeps P e w x =
      let at : (S : Encounter V → Type 0) → AllByRecursion S (from_starts m c lent) → S x.cut.here = λ S a. cut-here (λ s. P s → ⊥) P S (from_starts m c lent) a x.cut in
      subst (Unneeded m r c lent) x.shown (record {
        lengths = at (λ s. whole s ≡ true) (choices-whole m c (places c) lent w);
        kept = λ t j n. at (λ s. value_at s t j ≡ value_at lent t j) (choices-keep m c t j (places c) (untouched t j (places c) n) lent);
      })

  at_least : whole lent ≡ true → AtLeast m r c lent (reset m c (places c) lent)
  at_least w = record {
    least = (one_by_one m law r c ok lent w).3;
    others = record { lengths = reset-whole m c (places c) lent w; kept = λ t j n. reset-keep m c t j (places c) (untouched t j (places c) n) lent };
  }

  pub leaves : (i : Issue V) → Says m r c lent i → Leaves m r c lent i (written m r c lent i)
  leaves short_lists s = refl
  leaves too_many s = refl
  leaves all_barred s = at_least s.0.lengths
  leaves (shown_gap e) s = (refl, shown-keeps (Gap m r c) e s.0.lengths s.2)
  leaves (shown_clash e i j) s = (refl, shown-keeps (Clash m r c) e s.0.lengths s.3)
  leaves (shown_asymmetry e) s = (refl, shown-keeps (Asymmetry m r c) e s.0.lengths s.4)
  leaves (accepted n) s = at_least s.0.lengths
