use Rattle.items.specs.declared.Entry.TheVariants.{Any}
use Rattle.writer.proofs.Wrote.{entry_more}
use Rattle.writer.proofs.buffer.Writer.entries.Goals as goal

pub loop-e-preserved : goal.loop-e-preserved
loop-e-preserved g c =
    let es = c.args.entries.now in let i = c.loop-e.e-index in
    entry_more es i Any c.loop-e-test.true c.loop-e.invariant c.byte.ensures c.entry.ensures
