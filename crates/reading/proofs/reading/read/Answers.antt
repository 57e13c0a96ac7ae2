use Rattle.lists.specs.Held.{lists_of}
use Rattle.pages.proofs.BothWays.{read-rightly}
use Rattle.reading.proofs.reading.read.Goals as goal

pub returns : goal.returns
returns c = record {
  answer = c.read_page.ensures.answer;
  left = c.read_page.ensures.left;
  lent = c.read_page.ensures.lent;
  rightly = read-rightly c.args.page.now (lists_of c.args.lists.now);
}
