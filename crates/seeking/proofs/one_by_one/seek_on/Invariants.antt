use Rattle.std.proofs.Common.{◌≡◌, true, length}
use Rattle.tables.specs.Acceptance.{Acceptable}
use Rattle.tables.specs.Contents.{places, whole}
use Rattle.tables.specs.Starts.{remaining}
use Rattle.lists.specs.Held.{SameShowing, seen, shown}
use Rattle.seeking.specs.Seeks.{Tests}
use Rattle.seeking.proofs.Seeking.{On}
use Rattle.seeking.proofs.one_by_one.seek_on.Given as goal

abbrev pub invariant-loop : goal.invariant-loop
invariant-loop g l =
    let m = g.K.Kind.meaning in
    let r = g.R.ResultKind.results in
    let s = seen l.view in
    ((sought : _) → Tests g.F.Fn l.is_sought sought → (ok : Acceptable m r s) → whole (shown l.initial.at) ≡ true → length (remaining m s (places s) (shown l.initial.at)) ≡ l.count
    → On m g.met.K.Kind.lawful r s ok sought (shown l.initial.at) l.count l.counter (shown l.at))
    × SameShowing l.initial.at l.at
