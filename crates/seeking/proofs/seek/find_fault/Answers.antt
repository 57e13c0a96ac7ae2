use Rattle.std.proofs.Common.{◌<◌, subst, rules, arith}
use prog.Capped.{capped_small}
use Rattle.seeking.proofs.seek.find_fault.Goals as goal

pub shared_whole_as_slice-find_by_marks : goal.shared_whole_as_slice-find_by_marks
shared_whole_as_slice-find_by_marks g c =
    let few : c.size_of_val.result < 9223372036854775808 = omega (arith, c.if-size_of_val.false) in
    capped_small _ (subst (λ n. n < 9223372036854775808) c.size_of_val.ensures few)

pub returns-clause-found : goal.returns-clause-found
returns-clause-found g c = λ ok. c.find_by_marks.ensures.found (c.fill.ensures.filled c.if-not-fill.false) ok (search rules)
