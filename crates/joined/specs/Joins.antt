-- Either of two kinds, left values before right ones. Assumes nothing.
use Rattle.std.specs.Prelude.{ℕ, ◌+◌, Bool, false, None, Option}
use Rattle.std.specs.Option.{option_map}
use Rattle.joined.specs.declared.Either.{Either}
use Rattle.joined.specs.declared.Either.TheVariants.{Left, Right}
use Rattle.kinds.specs.Meaning.{Meaning}

module _ {V C W D : Type 0} (l : Meaning V C) (r : Meaning W D) where
  abbrev pub joined_rank : Either V W → ℕ
  joined_rank (Left v) = l.rank v
  joined_rank (Right w) = l.size + r.rank w

  abbrev pub joined_value : Either V W → Bool
  joined_value (Left v) = l.value v
  joined_value (Right w) = r.value w

  -- a range lies in one part
  abbrev pub joined_range : Either V W → Either V W → Bool
  joined_range (Left a) (Left z) = l.range a z
  joined_range (Left a) (Right z) = false
  joined_range (Right a) (Left z) = false
  joined_range (Right a) (Right z) = r.range a z

  -- a cell is lawful only for a range of its part
  abbrev pub joined_fits : Either C D → Either V W → Either V W → Bool
  joined_fits (Left c) (Left a) (Left z) = l.fits c a z
  joined_fits (Left c) (Left a) (Right z) = false
  joined_fits (Left c) (Right a) z = false
  joined_fits (Right d) (Left a) z = false
  joined_fits (Right d) (Right a) (Left z) = false
  joined_fits (Right d) (Right a) (Right z) = r.fits d a z

  -- and holds only there
  abbrev pub joined_holds : Either C D → Either V W → Bool
  joined_holds (Left c) (Left v) = l.holds c v
  joined_holds (Left c) (Right w) = false
  joined_holds (Right d) (Left v) = false
  joined_holds (Right d) (Right w) = r.holds d w

  -- after a value of the other part it has no stop
  abbrev pub joined_stop : Either C D → Either V W → Option (Either V W)
  joined_stop (Left c) (Left v) = option_map Left (l.stop c v)
  joined_stop (Left c) (Right w) = None
  joined_stop (Right d) (Left v) = None
  joined_stop (Right d) (Right w) = option_map Right (r.stop d w)

  abbrev pub joined : Meaning (Either V W) (Either C D)
  joined = record {
    rank = joined_rank;
    size = l.size + r.size;
    value = joined_value;
    range = joined_range;
    fits = joined_fits;
    holds = joined_holds;
    stop = joined_stop;
  }
