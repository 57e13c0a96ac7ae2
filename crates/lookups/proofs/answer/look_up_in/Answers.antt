use Rattle.std.proofs.Common.{◌∙◌, rules}
use Rattle.lists.specs.Held.{encounter_of, lists_of}
use Rattle.lookups.proofs.Asking.{answer-first}
use Rattle.lookups.proofs.answer.look_up_in.Goals as goal

pub returns : goal.returns
returns g c =
    let n = c.in_ok-checked.ensures.few in
    record {
      answer = λ few.
          let h = c.in_ok-checked.ensures.answer few in
          c.answer.ensures ∙ answer-first g.K.Kind.meaning g.R.ResultKind.results (encounter_of c.args.e.now) c.args.counts _ (lists_of c.args.lists.now) _ h.0 h.1 h.2;
      few = search rules;
    }
