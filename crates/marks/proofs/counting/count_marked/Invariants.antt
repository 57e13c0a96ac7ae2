use Rattle.std.proofs.Common.{◌≡◌, ◌*◌, ◌≤◌, drop, take}
use Rattle.marks.proofs.Products.{product_of}
use Rattle.marks.proofs.counting.count_marked.Given as goal

abbrev pub invariant-loop-span : goal.invariant-loop-span
invariant-loop-span g l =
    let ss = take l.in_use l.spans in
    (l.product ≤ 1048576) × (l.product * product_of (drop l.span-index ss) ≡ product_of ss)
