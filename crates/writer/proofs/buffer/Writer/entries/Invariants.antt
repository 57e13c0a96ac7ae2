use Rattle.std.proofs.Common.{map, take}
use Rattle.text.specs.Fields.{followed}
use Rattle.text.specs.Texts.{entry_text}
use Rattle.writer.specs.Writing.{Wrote}
use Rattle.writer.proofs.buffer.Writer.entries.Given as goal

abbrev pub invariant-loop-e : goal.invariant-loop-e
invariant-loop-e g l = Wrote l.initial.self (followed 32 (map entry_text (take l.e-index l.entries))) l.self
