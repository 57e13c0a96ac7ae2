use Rattle.std.proofs.Common.{take, ap, ◌∙◌}
use Rattle.std.proofs.lemmas.List.{take_min}
use Rattle.lines.proofs.pages.at_most.Goals as goal

pub returns-clause-part : goal.returns-clause-part
returns-clause-part c = ap (λ n. take n c.args.text.now) c.min.ensures ∙ take_min 65536 c.args.text.now
