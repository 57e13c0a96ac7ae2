-- The earlier of two stops by a test that a closure makes. Assumes nothing.
use Rattle.std.specs.Prelude.{◌≡◌, Bool, cond, Some, None, Option}

-- o is a where the test of the two passes, else b; or it is the one there is
abbrev pub EarlierBy : {V : Type 0} → (V → V → Bool → Type 0) → Option V → Option V → Option V → Type 0
EarlierBy Tests None b o = o ≡ b
EarlierBy Tests (Some x) None o = o ≡ Some x
EarlierBy Tests (Some x) (Some y) o = (t : Bool) × Tests x y t × (o ≡ cond t (Some x) (Some y))
