use Rattle.std.specs.Prelude.{ℕ, Some, None, Option}
use Rattle.std.proofs.Common.{arith}
use Rattle.kinds.specs.Meaning.{Before}
use Rattle.names.specs.NameSets.{name_rank}

pub plain : (w : ℕ) (o : Option ℕ) → Before name_rank w o → Before (λ x. x) w o
plain w None h = tt
plain w (Some s) h = omega arith
