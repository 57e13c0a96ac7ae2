use Rattle.std.proofs.Common.{codes, sym, ap, arith, rules}
use Rattle.std.proofs.lemmas.Slice.Eq.{text_from_reads}
use Rattle.text.specs.Words.{first_word}
use Rattle.lexer.proofs.words.first_word.Goals as goal

pub returns-in-flight : goal.returns-in-flight
returns-in-flight c = sym (ap first_word (text_from_reads c.args.field.now (codes "flight") (omega arith) (search rules)))

pub returns-in-column : goal.returns-in-column
returns-in-column c = sym (ap first_word (text_from_reads c.args.field.now (codes "column") (omega arith) (search rules)))

pub returns-in-100 : goal.returns-in-100
returns-in-100 c = sym (ap first_word (text_from_reads c.args.field.now (codes "default") (omega arith) (search rules)))
