use Rattle.std.proofs.Common.{rules, ap, w32, SFits}
use Rattle.std.specs.Fmt.{signed_decimal}
use Rattle.std.proofs.lemmas.Int.{to_z-of_z}
use Rattle.writer.proofs.Wrote.{wrote-more, wrote-from, wrote_as, marked-in, marked-out}
use Rattle.writer.proofs.buffer.Writer.band.Goals as goal
use Rattle.writer.proofs.buffer.Writer.band.Goals.{then-not-band, else-not-band}

pub returns : goal.returns
returns g c =
    let b = c.args.band in
    let lo : SFits w32 b.lo = search rules in
    let hi : SFits w32 b.hi = search rules in
    let more = wrote-more (wrote_as (ap signed_decimal (to_z-of_z w32 b.lo lo)) c.measure.ensures) (wrote-more c.word.ensures (wrote_as (ap signed_decimal (to_z-of_z w32 b.hi hi)) c.measure-2.ensures)) in
    elim c.if-not-band.branch [
      | then-not-band w ↦ marked-out b.inside b.lo b.hi w.if-not-band.true w.byte.ensures (wrote-from w.self-is more)
      | else-not-band w ↦ marked-in b.inside b.lo b.hi w.if-not-band.false (wrote-from w.self-is more)
    ]
