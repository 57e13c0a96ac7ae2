-- The places of tracks. Assumes nothing.
use Rattle.std.specs.Prelude.{◌≡◌, ℕ, ◌+◌, ◌*◌, ◌<◌, ◌≤◌, min, Bool, true, false, cond, ◌⊎◌, nat_le, refl}
use Rattle.std.proofs.Common.{sym, ap₂, ◌∙◌, arith}
use Rattle.std.proofs.lemmas.Bool.{leb-true}
use Rattle.std.proofs.lemmas.Bool.Decides.{nat_tests}
use Rattle.tracks.specs.Tracks.{place, track_rank, is_track, next}
use Rattle.tracks.specs.declared.Track.{Track}

abbrev place_of : ℕ → Bool → ℕ
place_of a h = cond h (2 * a + 1) (2 * a)

same_place : (a b : ℕ) (h k : Bool) → place_of a h ≡ place_of b k → (a ≡ b) × (h ≡ k)
same_place a b true true e = (omega arith, refl)
same_place a b true false e = let z : ◌≡◌ {A = ℕ} 0 1 = omega arith in absurd (omega arith)
same_place a b false true e = let z : ◌≡◌ {A = ℕ} 0 1 = omega arith in absurd (omega arith)
same_place a b false false e = (omega arith, refl)

rank-place : (t : Track) → is_track t ≡ true → track_rank t ≡ place t
rank-place t h = let k = leb-true (place t) 50 h in omega arith

-- tracks in one place are one track
pub same-track : (v w : Track) → is_track v ≡ true → is_track w ≡ true → track_rank v ≡ track_rank w → v ≡ w
same-track v w p q e =
    let s = same_place v.letter w.letter v.half w.half (sym (rank-place v p) ∙ e ∙ rank-place w q) in
    ap₂ (λ a h. record { letter = a; half = h }) s.0 s.1

next_of : (a : ℕ) (h : Bool) → place (next (record { letter = a; half = h })) ≡ place_of a h + 1
next_of a true = omega arith
next_of a false = refl

pub place-next : (t : Track) → place (next t) ≡ place t + 1
place-next t = next_of t.letter t.half

-- what is not after a track is one
pub not_after : (p q : ℕ) → nat_le q 50 ≡ true → min p 511 ≤ min q 511 → nat_le p 50 ≡ true
not_after p q h k = grind (arith, nat_tests)

-- a place that is not passed from v to w is before both or after both
pub same_from : (p v w : ℕ) → nat_le p 50 ≡ true → min v 511 ≤ min w 511
    → (nat_le p 50 ≡ false) ⊎ ((min p 511 ≤ min v 511) ⊎ (min w 511 < min p 511)) → nat_le (min p 511) (min v 511) ≡ nat_le (min p 511) (min w 511)
same_from p v w h q k = grind (arith, nat_tests)

pub same-to : (p s v w : ℕ) → nat_le p 50 ≡ true → s ≡ p + 1 → nat_le w 50 ≡ true → min v 511 ≤ min w 511
    → (nat_le s 50 ≡ false) ⊎ ((min s 511 ≤ min v 511) ⊎ (min w 511 < min s 511)) → nat_le (min v 511) (min p 511) ≡ nat_le (min w 511) (min p 511)
same-to p s v w h e z q k = grind (arith, nat_tests)

-- nothing lies between a track and the next one
pub no-further : (s v w : ℕ) → s ≡ v + 1 → nat_le w 50 ≡ true → min v 511 ≤ min w 511
    → (nat_le s 50 ≡ false) ⊎ ((min s 511 ≤ min v 511) ⊎ (min w 511 < min s 511)) → min v 511 ≡ min w 511
no-further s v w e z q k = grind (arith, nat_tests)
