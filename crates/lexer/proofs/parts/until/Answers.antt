use Rattle.std.proofs.Common.{◌≡◌, ◌+◌, not, eqb, drop, sym, ap, ◌∙◌, arith, rules, tests, length-drop}
use Rattle.std.proofs.lemmas.Iterator.{YieldsList-from_slice}
use Rattle.std.proofs.lemmas.Iterator.Consumers.{count_from_yields_List}
use Rattle.std.proofs.lemmas.Iterator.Search.{YieldsList-from_take_while}
use Rattle.std.proofs.lemmas.List.Folds.{length-prefix_len}
use Rattle.text.specs.Fields.{up_to}
use Rattle.text.proofs.Parts.{up_to-le}
use Rattle.lexer.proofs.Splits.{up_to-prefix}
use Rattle.lexer.proofs.parts.until.Goals as goal

pub returns : goal.returns
returns c =
    let bytes = c.args.bytes.now in
    let left = c.left_from-left.result.now in
    let n : c.count.result ≡ up_to c.args.sep (drop c.args.from bytes) =
    count_from_yields_List c.take_while.result _ c.count.ensures.ran (YieldsList-from_take_while _ (λ b. not (eqb b c.args.sep)) (YieldsList-from_slice left cc) c.take_while.ensures.closure c.take_while.ensures.done (λ x b q k. search (rules, tests)))
    ∙ length-prefix_len (λ b. not (eqb b c.args.sep)) left ∙ sym (up_to-prefix c.args.sep left) ∙ ap (up_to c.args.sep) c.left_from-left.ensures in
    (ap (λ m. c.args.from + m) n, λ h. omega (arith, n, up_to-le c.args.sep (drop c.args.from bytes), length-drop c.args.from bytes))
