use Rattle.std.proofs.Common.{◌/◌, ◌%◌, ◌∷◌, ◌++◌, ap₂, ◌∙◌}
use Rattle.std.specs.Fmt.{styled_decimal}
use Rattle.printing.proofs.Times.{time-digits}
use Rattle.printing.proofs.values.time_text.Goals as goal

pub returns : goal.returns
returns c =
    c.in_ok-format.ensures.ok
    ∙ ap₂ (λ s u. styled_decimal s (c.args.t / 60 % 100) ++ (58 ∷ styled_decimal u (c.args.t % 60))) c.laid_out.ensures c.laid_out-2.ensures
    ∙ time-digits c.args.t
