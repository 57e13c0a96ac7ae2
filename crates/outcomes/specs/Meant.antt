-- What the outcomes of the code mean. Assumes nothing.
use Rattle.std.specs.Prelude.{ℕ, List, take, drop}
use Rattle.kinds.specs.Meaning.{Meaning}
use Rattle.tables.specs.Contents.{Encounter}
use Rattle.tables.specs.Outcomes.{Outcome as Meant, barred, gap, clash, answer, columns_met}
use Rattle.tables.specs.Storage.{columns_from}
use Rattle.lists.specs.Held.{seen}
use Rattle.kinds.specs.declared.Kind.{Ghosts}
use Rattle.lists.specs.declared.view.View.{View}
use Rattle.outcomes.specs.declared.outcome.Outcome.{Outcome}
use Rattle.outcomes.specs.declared.outcome.Outcome.TheVariants.{Barred, Gap, Clash, Answer}

abbrev pub outcome_of : {R : Type 0} → Outcome R → Meant R
outcome_of Barred = barred
outcome_of Gap = gap
outcome_of (Clash lowest other) = clash lowest other
outcome_of (Answer x) = answer x

-- the columns from number j on that are met
abbrev pub met_from : {K R V C : Type 0} {k : Ghosts K V C} → Meaning V C → View K R V C k → Encounter V → ℕ → List (ℕ × R)
met_from m v e j = columns_met m j (seen v).rows (columns_from v.entries.now v.counts.rows j (drop j (take v.counts.columns v.results.now))) e
