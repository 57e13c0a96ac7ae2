use Rattle.std.specs.Prelude.{◌≡◌, ◌<◌, ◌≤◌, true, ◌&&◌, Some, nat_le}
use Rattle.std.proofs.Common.{ap, ap₂}
use Rattle.std.proofs.lemmas.Bool.{and_parts, leb-true}
use Rattle.kinds.specs.Meaning.{Before, later}
use Rattle.kinds.proofs.Earliest.{later-later, later-before, two-later, two-before}
use Rattle.tracks.specs.Tracks.{place, track_rank, is_track, next, holds_for, is_cell, stop_after, tracks}
use Rattle.tracks.specs.declared.Track.{Track}
use Rattle.tracks.specs.declared.TrackCell.{TrackCell}
use Rattle.tracks.specs.declared.TrackCell.TheVariants.{Span, Whole, Half}
use Rattle.tracks.specs.Places.{same-track, place-next, not_after, same_from, same-to, no-further}

-- the ends of a lawful range are tracks in order
pub both-tracks : (a z : Track) → tracks.range a z ≡ true → (is_track a ≡ true) × (is_track z ≡ true) × (track_rank a ≤ track_rank z)
both-tracks a z r =
    let p = and_parts (is_track a) (is_track z && nat_le (track_rank a) (track_rank z)) r in
    let q = and_parts (is_track z) (nat_le (track_rank a) (track_rank z)) p.1 in
    (p.0, q.0, leb-true (track_rank a) (track_rank z) q.1)

pub stops-later : (c : TrackCell) (v s : Track) → stop_after c v ≡ Some s → (track_rank v < track_rank s) × (is_track s ≡ true)
stops-later (Span a b) v s e = two-later track_rank is_track v a (next b) s e
stops-later Whole v s e = later-later track_rank is_track v (next v) s e
stops-later Half v s e = later-later track_rank is_track v (next v) s e

-- before the next track there is only the track itself
pub same-until : (v w : Track) → is_track v ≡ true → is_track w ≡ true → track_rank v ≤ track_rank w → Before track_rank w (later track_rank is_track v (next v)) → v ≡ w
same-until v w p q k h = same-track v w p q (no-further (place (next v)) (place v) (place w) (place-next v) q k (later-before track_rank is_track v w (next v) h))

pub steady-cell : (c : TrackCell) (v w : Track) → is_cell c ≡ true → is_track v ≡ true → is_track w ≡ true → track_rank v ≤ track_rank w → Before track_rank w (stop_after c v) → holds_for c v ≡ holds_for c w
steady-cell (Span a b) v w f p q k h =
    let s = two-before track_rank is_track v w a (next b) h in
    let ends = both-tracks a b f in
    ap₂ (λ x y. x && y)
    (same_from (place a) (place v) (place w) ends.0 k s.0)
    (same-to (place b) (place (next b)) (place v) (place w) ends.1 (place-next b) q k s.1)
steady-cell Whole v w f p q k h = ap (holds_for Whole) (same-until v w p q k h)
steady-cell Half v w f p q k h = ap (holds_for Half) (same-until v w p q k h)

pub in-range : (a z v : Track) → tracks.range a z ≡ true → track_rank v ≤ track_rank z → is_track v ≡ true
in-range a z v r k = not_after (place v) (place z) (both-tracks a z r).1 k
