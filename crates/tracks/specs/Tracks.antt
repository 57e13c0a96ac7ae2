-- Tracks: A to Z with the half tracks between them, and spans, whole tracks and half tracks. Assumes nothing.
use Rattle.std.specs.Prelude.{ℕ, ◌+◌, ◌*◌, min, Bool, true, false, cond, not, ◌&&◌, Option, nat_le}
use Rattle.tracks.specs.declared.Track.{Track}
use Rattle.tracks.specs.declared.TrackCell.{TrackCell}
use Rattle.tracks.specs.declared.TrackCell.TheVariants.{Span, Whole, Half}
use Rattle.kinds.specs.Meaning.{Meaning, earlier, later}

-- counted in half tracks from A
abbrev pub place : Track → ℕ
place t = cond t.half (2 * t.letter + 1) (2 * t.letter)

-- the order is that of all places that a letter of 8 bits can have
abbrev pub track_rank : Track → ℕ
track_rank t = min (place t) 511

-- A to Z; there is no half track after Z
abbrev pub is_track : Track → Bool
is_track t = nat_le (place t) 50

-- half a track further on
abbrev pub next : Track → Track
next t = cond t.half (record { letter = t.letter + 1; half = false }) (record { letter = t.letter; half = true })

abbrev pub holds_for : TrackCell → Track → Bool
holds_for (Span a b) t = nat_le (track_rank a) (track_rank t) && nat_le (track_rank t) (track_rank b)
holds_for Whole t = not t.half
holds_for Half t = t.half

abbrev pub is_cell : TrackCell → Bool
is_cell (Span a b) = is_track a && (is_track b && nat_le (track_rank a) (track_rank b))
is_cell Whole = true
is_cell Half = true

-- a span stops at its first track and after its last; whole and half tracks turn at every track
abbrev pub stop_after : TrackCell → Track → Option Track
stop_after (Span a b) t = earlier track_rank (later track_rank is_track t a) (later track_rank is_track t (next b))
stop_after Whole t = later track_rank is_track t (next t)
stop_after Half t = later track_rank is_track t (next t)

abbrev pub tracks : Meaning Track TrackCell
tracks = record {
  rank = track_rank;
  size = 512;
  value = is_track;
  range = λ a z. is_track a && (is_track z && nat_le (track_rank a) (track_rank z));
  fits = λ c a z. is_cell c;
  holds = holds_for;
  stop = stop_after;
}
