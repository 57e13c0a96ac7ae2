use Rattle.std.proofs.Common.{◌≡◌, ◌*◌, ◌≤◌}
use Rattle.tables.specs.Starts.{count}
use Rattle.lists.specs.Held.{seen}
use Rattle.starts.proofs.Counting.{left}
use Rattle.starts.proofs.count.count.Given as goal

abbrev pub invariant-loop-i : goal.invariant-loop-i
invariant-loop-i g l =
    let m = g.K.Kind.meaning in
    (l.product ≤ 1048576) × (l.product * left m (seen l.view) (seen l.view).quantities l.i ≡ count m (seen l.view))
