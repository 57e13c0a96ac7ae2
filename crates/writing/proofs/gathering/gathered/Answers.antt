use Rattle.std.proofs.Common.{◌+◌, ◌*◌, get_or, ◌∙◌, arith}
use Rattle.std.proofs.lemmas.List.{length-set}
use Rattle.items.specs.declared.Entry.TheVariants.{Any}
use Rattle.writing.proofs.OneByOne.{gathered-more}
use Rattle.writing.proofs.gathering.gathered.Goals as goal

pub loop-i-preserved : goal.loop-i-preserved
loop-i-preserved c =
    let l = c.loop-i in
    let es = c.args.view.now.entries.now in
    let long = l.invariant.0 in
    (length-set l.all l.i (get_or es (24 * l.i + c.args.column) Any) ∙ long, gathered-more l.all es l.i c.args.column (omega arith) l.invariant.1)
