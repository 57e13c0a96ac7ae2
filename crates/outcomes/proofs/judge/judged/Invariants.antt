use Rattle.std.proofs.Common.{◌≡◌, ℕ}
use Rattle.tables.specs.Outcomes.{judged}
use Rattle.lists.specs.Held.{encounter_of, seen}
use Rattle.outcomes.specs.Meant.{met_from}
use Rattle.outcomes.proofs.judge.judged.Given as goal

abbrev pub invariant-loop-j : goal.invariant-loop-j
invariant-loop-j g l =
    let from = λ (j : ℕ). judged g.R.ResultKind.results (seen l.view).default (met_from g.K.Kind.meaning l.view (encounter_of l.e) j) in
    from l.j ≡ from 0
