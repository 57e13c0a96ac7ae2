-- Where the first question is answered yes, the calls answer what is said of the contents. Assumes nothing.
use Rattle.std.proofs.Common.{◌≡◌, true, ap, ◌∙◌}
use Rattle.std.proofs.lemmas.Bool.{cond-true}
use Rattle.kinds.specs.Meaning.{Meaning}
use Rattle.results.specs.Results.{Results}
use Rattle.items.specs.declared.Counts.{Counts}
use Rattle.tables.specs.Contents.{Contents}
use Rattle.tables.specs.Issues.{issue, answered, written}
use Rattle.tables.specs.Lookups.{look_up, told}
use Rattle.tables.specs.Calls.{first_no, asked}
use Rattle.tables.specs.Storage.{Lists, contents_of, in_order}
use Rattle.tables.specs.Answers.{AnsweredFor}

pub answered-for : {V C R : Type 0} (m : Meaning V C) (r : Results R) (n : Counts) (l : Lists V C R) (c : Contents V C R) → in_order m r n l ≡ true → contents_of n l ≡ c → AnsweredFor m r n l c
answered-for m r n l c t h = record {
  edits = λ k. cond-true (in_order m r n l) _ _ t ∙ ap (λ d. first_no (asked m r k d)) h;
  issues = λ e. cond-true (in_order m r n l) _ _ t ∙ ap (λ d. answered (issue m r d e)) h;
  writes = λ e. cond-true (in_order m r n l) _ _ t ∙ ap (λ d. written m r d e (issue m r d e)) h;
  look_ups = λ e. cond-true (in_order m r n l) _ _ t ∙ ap (λ d. told (look_up m r d e)) h;
}
