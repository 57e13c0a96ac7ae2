use Rattle.std.proofs.Common.{ap}
use Rattle.text.specs.Texts.{kind_text, word_text}
use Rattle.writer.proofs.Wrote.{wrote_none, wrote-more, wrote_as}
use Rattle.writer.proofs.buffer.Writer.quantity.Goals as goal

pub returns : goal.returns
returns g c =
    wrote-more (wrote-more (wrote_as (ap word_text c.scope_word.ensures) c.spelled.ensures)
    (wrote-more (wrote-more c.byte.ensures (wrote_as (ap kind_text c.kind_of.ensures) c.spelled-2.ensures))
    (wrote-more (wrote-more c.byte-2.ensures c.value.ensures)
    (wrote-more (wrote-more c.byte-3.ensures c.value-2.ensures) (wrote_none _))))) c.byte-4.ensures
