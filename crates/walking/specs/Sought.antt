-- What a test answers of the sets of an encounter. Assumes nothing.
use Rattle.std.specs.Prelude.{◌≡◌, ◌^◌, ◌<◌, Bool}
use Rattle.std.specs.Fn.{Shared}
use Rattle.sets.specs.declared.Met.{Met}

-- the test t answers f of each pair of sets that a call can pass
abbrev pub Answers : {F : Type 0} → Shared F (Met × Unit {0}) Bool → F → (Met → Bool) → Type 0
Answers g t f = (s : Met) (b : Bool) → s.here < 2 ^ 32 → s.exchanged < 2 ^ 32 → g.post t (s, tt) b → b ≡ f s
