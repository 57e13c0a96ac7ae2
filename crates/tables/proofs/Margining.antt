-- What the margins tell. Assumes nothing.
use Rattle.std.proofs.Common.{◌≡◌, true, false, ◌||◌, ◌⊎◌, ℤ, pos, negsuc, ◌-ℤ◌, ◌≤ℤ◌, ◌<ℤ◌, Decides, sym, ap, ◌∙◌, inl, inr, ⊎_elim, arith}
use lib.Signed.{lt_z}
use Rattle.std.proofs.lemmas.Int.{ints}
use Rattle.std.proofs.lemmas.Bool.{cond_both, false≢true}
use Rattle.std.proofs.lemmas.Bool.Decides.{Decides-or}
use Rattle.tables.specs.Margins.{difference, margin_at, kept, MarginsMean}

not_negative : (z : ℤ) → Decides (kept z) (pos 0 ≤ℤ z)
not_negative z = ((λ h. grind (arith, ints)), λ h. grind (arith, ints))

either_way : (a b : ℤ) → difference a b ≡ difference b a
either_way a b = ap pos (grind (arith, ints))

apart-kept : (s t : ℤ) → t <ℤ s → kept ((s -ℤ t) -ℤ pos 1) ≡ true
apart-kept s t h = grind (arith, ints)

inside-lost : (z : ℤ) → pos 0 ≤ℤ z → kept (negsuc 0 -ℤ z) ≡ false
inside-lost z h = grind (arith, ints)

below : (x y : ℤ) → lt_z x y ≡ true → x <ℤ y
below x y h = grind (arith, ints)

not-below : (x y : ℤ) → lt_z x y ≡ false → pos 0 ≤ℤ (x -ℤ y)
not-below x y h = grind (arith, ints)

not-both : (x y : ℤ) → lt_z x y ≡ false → x <ℤ y → ⊥
not-both x y h k = grind (arith, ints)

kept-outside : (s e t : ℤ) → Decides (kept (margin_at s e t)) ((t <ℤ s) ⊎ (e <ℤ t))
kept-outside s e t =
    let P : ℤ → Type 0 = λ z. Decides (kept z) ((t <ℤ s) ⊎ (e <ℤ t)) in
    cond_both (lt_z t s) ((s -ℤ t) -ℤ pos 1) _ P
    (λ a. ((λ _. inl (below t s a)), λ _. apart-kept s t (below t s a)))
    (λ b. cond_both (lt_z e t) ((t -ℤ e) -ℤ pos 1) _ P
    (λ a. ((λ _. inr (below e t a)), λ _. apart-kept t e (below e t a)))
    (λ d. cond_both (lt_z (e -ℤ t) (t -ℤ s)) (e -ℤ t) (t -ℤ s) (λ z. P (negsuc 0 -ℤ z))
    (λ _. lost (e -ℤ t) (inside-lost (e -ℤ t) (not-below e t d)) b d)
    (λ _. lost (t -ℤ s) (inside-lost (t -ℤ s) (not-below t s b)) b d)))
  where
    lost : (z : ℤ) → kept (negsuc 0 -ℤ z) ≡ false → lt_z t s ≡ false → lt_z e t ≡ false → Decides (kept (negsuc 0 -ℤ z)) ((t <ℤ s) ⊎ (e <ℤ t))
    lost z f b d = ((λ k. absurd (false≢true (sym f ∙ k))), λ k. absurd (⊎_elim (not-both t s b) (not-both e t d) k))

pub margins-mean : MarginsMean
margins-mean = record {
  exchanged = either_way;
  outside = kept-outside;
  one = λ v l g. Decides-or (kept v) (kept l || kept g) (not_negative v) (Decides-or (kept l) (kept g) (not_negative l) (not_negative g));
}
