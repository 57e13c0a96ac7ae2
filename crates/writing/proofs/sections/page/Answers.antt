use Rattle.std.proofs.Common.{rules}
use Rattle.writer.proofs.Wrote.{wrote-more}
use Rattle.writing.proofs.sections.page.Goals as goal

pub returns : goal.returns
returns g c = search (rules, wrote-more)
