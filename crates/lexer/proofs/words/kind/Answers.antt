use Rattle.std.proofs.Common.{codes, sym, ap, arith, rules}
use Rattle.std.proofs.lemmas.Slice.Eq.{text_from_reads}
use Rattle.text.specs.Words.{kind}
use Rattle.lexer.proofs.words.kind.Goals as goal

pub returns-in-measure : goal.returns-in-measure
returns-in-measure c = sym (ap kind (text_from_reads c.args.field.now (codes "measure") (omega arith) (search rules)))
