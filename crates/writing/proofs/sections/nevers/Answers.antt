use Rattle.std.proofs.Common.{◌≡◌, ◌+◌, map, ap, arith}
use Rattle.std.specs.List.{range_with_len}
use Rattle.tables.specs.Storage.{column_of}
use Rattle.text.specs.Texts.{say_never}
use Rattle.writer.proofs.Wrote.{wrote_as}
use Rattle.writing.proofs.LinesOn.{texts, never_on}
use Rattle.writing.proofs.sections.nevers.Goals as goal

pub loop-j-preserved : goal.loop-j-preserved
loop-j-preserved g c =
    let v = c.args.view.now in
    never_on v.entries.now v.counts.rows c.loop-j.j c.loop-j.invariant c.never.ensures

pub returns : goal.returns
returns g c =
    let v = c.args.view.now in
    let e : c.loop-j.j ≡ v.counts.nevers = omega arith in
    wrote_as (ap (λ n. texts (map say_never (map (λ j. column_of v.entries.now v.counts.rows (16 + j)) (range_with_len 0 n)))) e) c.loop-j.invariant
