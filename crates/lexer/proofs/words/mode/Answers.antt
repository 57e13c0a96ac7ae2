use Rattle.std.proofs.Common.{codes, sym, ap, arith, rules}
use Rattle.std.proofs.lemmas.Slice.Eq.{text_from_reads}
use Rattle.text.specs.Words.{mode}
use Rattle.lexer.proofs.words.mode.Goals as goal

pub returns-in-either : goal.returns-in-either
returns-in-either c = sym (ap mode (text_from_reads c.args.field.now (codes "either") (omega arith) (search rules)))
