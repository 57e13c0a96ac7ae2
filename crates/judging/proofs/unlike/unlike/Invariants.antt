use Rattle.std.proofs.Common.{◌≡◌, ℕ, ◌&&◌, nat_lt, not, get_or}
use Rattle.sets.specs.Sets.{bit}
use Rattle.std.specs.Int.{bit_at}
use Rattle.judging.proofs.unlike.unlike.Given as goal

abbrev pub invariant-loop-k : goal.invariant-loop-k
invariant-loop-k g l = (k : ℕ) → bit_at l.set k ≡ bit (nat_lt k l.k && not (g.R.ResultKind.results.same l.res (get_or l.results k l.res)))
