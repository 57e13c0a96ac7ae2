-- The joined house kinds: measures, then names, then the clock. Assumes nothing.
use Rattle.std.specs.Prelude.{ℕ, ℤ}
use Rattle.kinds.specs.Meaning.{Meaning}
use Rattle.measure.specs.declared.Band.{Band}
use Rattle.measure.specs.Measures.{measure}
use Rattle.names.specs.declared.NameSet.{NameSet}
use Rattle.names.specs.NameSets.{names}
use Rattle.clock.specs.declared.Window.{Window}
use Rattle.clock.specs.Clocks.{clock}
use Rattle.joined.specs.declared.Either.{Either}
use Rattle.joined.specs.Joins.{joined}

abbrev pub Value : Type 0
Value = Either ℤ (Either ℕ ℕ)

abbrev pub Cell : Type 0
Cell = Either Band (Either NameSet Window)

abbrev pub house : Meaning Value Cell
house = joined measure (joined names clock)
