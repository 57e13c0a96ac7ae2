use Rattle.std.proofs.Common.{◌∙◌}
use Rattle.std.proofs.lemmas.List.{take_rest}
use Rattle.lines.proofs.Steps.{field-at}
use Rattle.lines.proofs.cursor.Fields.next_field.Goals as goal

pub returns-clause-left : goal.returns-clause-left
returns-clause-left c =
    let s = c.args.self.now in
    let h = c.in_ok-rest.ensures in
    let l = h.lookup in
    field-at s.line.now c.in_ok-rest.rest.now s.at c.until-end.result l.0.0 (l.0.2 ∙ take_rest s.line.now s.at) c.until-end.ensures.0
