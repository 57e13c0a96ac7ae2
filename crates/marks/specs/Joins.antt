-- What one more column does to a set, and one more row to a mark. Assumes nothing.
use Rattle.std.specs.Prelude.{◌≡◌, ℕ, ◌+◌, Bool, cond, max, replicate, ◌==◌, slice_set}
use Rattle.std.specs.Int.{bit_at}
use Rattle.std.specs.Int.Bits.{bit_and}
use Rattle.items.specs.declared.Mode.{Mode}
use Rattle.sets.specs.declared.Mark.{Mark}
use Rattle.sets.specs.Marks.{reads_a, reads_b, is_either}
use Rattle.sets.specs.Sets.{bit}

-- t is the set s with column j too, if b
abbrev pub WithToo : ℕ → ℕ → Bool → ℕ → Type 0
WithToo s j b t = (k : ℕ) → bit_at t k ≡ max (bit_at s k) (cond (k == j) (bit b) 0)

-- the mark of a value that no row reads
abbrev pub blank_mark : {V : Type 0} → V → Mark V
blank_mark v = record { value = v; of_a = 4294967295; of_b = 4294967295; eithers = 0; either = replicate 16 0 }

-- y is the mark x with what holds in one more row, a row of the mode
pub record Joined {V : Type 0} (x : Mark V) (mode : Mode) (s : ℕ) (y : Mark V) : Type 0 where
  pub value : y.value ≡ x.value
  pub of_a : y.of_a ≡ cond (reads_a mode) (bit_and x.of_a s) x.of_a
  pub of_b : y.of_b ≡ cond (reads_b mode) (bit_and x.of_b s) x.of_b
  pub eithers : y.eithers ≡ x.eithers + cond (is_either mode) 1 0
  pub either : y.either ≡ cond (is_either mode) (slice_set x.either x.eithers s) x.either
