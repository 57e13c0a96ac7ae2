-- Measures: whole numbers within a million of 0, and bands of them. Assumes nothing.
use Rattle.std.specs.Prelude.{ℕ, ◌+◌, ◌-◌, min, Bool, cond, not, ◌&&◌, ℤ, pos, negsuc, ◌+ℤ◌, int_le}
use borrow.Author.Differences.{up, down}
use Rattle.measure.specs.declared.Band.{Band}
use Rattle.kinds.specs.Meaning.{Meaning, earlier, later}

-- the order is that of all numbers of 32 bits: z, which is up z or minus down z, has the place 2 ^ 31 + z
abbrev pub measure_rank : ℤ → ℕ
measure_rank z = min ((2147483648 + up z) - down z) 4294967295

-- from -1,000,000 to 1,000,000
abbrev pub is_measure : ℤ → Bool
is_measure z = int_le (negsuc 999999) z && int_le z (pos 1000000)

abbrev pub within : Band → ℤ → Bool
within c z = int_le c.lo z && int_le z c.hi

abbrev pub measure : Meaning ℤ Band
measure = record {
  rank = measure_rank;
  size = 4294967296;
  value = is_measure;
  range = λ a z. is_measure a && (is_measure z && int_le a z);
  fits = λ c a z. is_measure c.lo && (is_measure c.hi && int_le c.lo c.hi);
  holds = λ c z. cond c.inside (within c z) (not (within c z));
  stop = λ c v. earlier measure_rank (later measure_rank is_measure v c.lo) (later measure_rank is_measure v (c.hi +ℤ pos 1));
}
