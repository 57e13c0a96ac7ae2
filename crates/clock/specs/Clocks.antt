-- The clock: minutes of the day, and windows of them. Assumes nothing.
use Rattle.std.specs.Prelude.{Bool, cond, ◌&&◌, ◌||◌, ℕ, ◌+◌, min, leb, ltb}
use Rattle.clock.specs.declared.Window.{Window}
use Rattle.kinds.specs.Meaning.{Meaning, earlier, later}

-- the order is that of all numbers of 16 bits
abbrev pub clock_rank : ℕ → ℕ
clock_rank t = min t 65535

abbrev pub is_minute : ℕ → Bool
is_minute t = ltb t 1440

abbrev pub clock : Meaning ℕ Window
clock = record {
  rank = clock_rank;
  size = 65536;
  value = is_minute;
  range = λ a z. is_minute a && (is_minute z && leb a z);
  fits = λ c a z. is_minute c.start && is_minute c.end;
  holds = λ c t. cond (leb c.start c.end) (leb c.start t && leb t c.end) (leb c.start t || leb t c.end);
  stop = λ c v. earlier clock_rank (later clock_rank is_minute v c.start) (later clock_rank is_minute v (c.end + 1));
}
