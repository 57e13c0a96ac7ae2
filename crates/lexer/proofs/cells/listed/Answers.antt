use Rattle.std.proofs.Common.{eqb, length, ◌∙◌, rules, tests, length-append}
use Rattle.std.proofs.lemmas.Iterator.Consumers.{YieldsList-turn, YieldsList-end}
use Rattle.std.proofs.lemmas.Iterator.Splits.{YieldsList-from_slice_split}
use Rattle.std.proofs.lemmas.Nat.{one_shl}
use Rattle.lexer.proofs.Splits.{listed-more, listed-none, listed-all}
use Rattle.lexer.proofs.cells.listed.Goals as goal

pub returns-in_err-n : goal.returns-in_err-n
returns-in_err-n c =
    let bs = c.args.bytes.now in
    let l = c.loop-part in
    let part = c.in-Some.part.now in
    let turn = YieldsList-turn (YieldsList-from_slice_split {s = c.into_iter-part-iterator.result} _ (λ b. eqb b 44) bs (search rules) (search rules) (cc) (λ x b q k. search (rules, tests)))
    l.yielded l.part-iterator l.yielded_by c.next.result c.next.new.self c.in-Some.part c.in-Some.is c.next.ensures.steps in
    c.from_residual.ensures ∙ listed-none bs l.bits l.from (length l.yielded) l.invariant part turn.0 turn.1 c.in_err-n.ensures.value

pub loop-part-preserved : goal.loop-part-preserved
loop-part-preserved c =
    let bs = c.args.bytes.now in
    let l = c.loop-part in
    let part = c.in-Some.part.now in
    let n = c.in_ok-n.n in
    let w = c.in_ok-n.ensures.within in
    let turn = YieldsList-turn (YieldsList-from_slice_split {s = c.into_iter-part-iterator.result} _ (λ b. eqb b 44) bs (search rules) (search rules) (cc) (λ x b q k. search (rules, tests)))
    l.yielded l.part-iterator l.yielded_by c.next.result c.next.new.self c.in-Some.part c.in-Some.is c.next.ensures.steps in
    let next = listed-more bs l.bits l.from (length l.yielded) l.invariant part turn.0 turn.1 n c.in_ok-n.ensures.value w.0 w.1 in
    rw (one_shl n 32 w.1, length-append) next

pub returns : goal.returns
returns c =
    let bs = c.args.bytes.now in
    let l = c.loop-part in
    let whole = YieldsList-end (YieldsList-from_slice_split {s = c.into_iter-part-iterator.result} _ (λ b. eqb b 44) bs (search rules) (search rules) (cc) (λ x b q k. search (rules, tests)))
    l.yielded l.part-iterator l.yielded_by c.next.result c.next.new.self c.in-None.is c.next.ensures.steps in
    listed-all bs l.bits l.from (length l.yielded) l.invariant whole.1
