-- Counting up to the limit. Assumes nothing.
use Rattle.std.specs.Prelude.{ℕ, cond, length, Some, None, Option, nat_le}
use Rattle.kinds.specs.Meaning.{Meaning}
use Rattle.tables.specs.Contents.{Contents}
use Rattle.tables.specs.Starts.{cells_of, starts_on}
use Rattle.tables.specs.Issues.{limit}

-- the count, where it is told
abbrev pub within_limit : ℕ → Option ℕ
within_limit n = cond (nat_le n limit) (Some n) None

-- how many starts quantity i has in a range
unfoldable pub starts_of : {V C R : Type 0} → Meaning V C → Contents V C R → ℕ → V → V → ℕ
starts_of m c i least greatest = length (starts_on m (cells_of c i) greatest least)
