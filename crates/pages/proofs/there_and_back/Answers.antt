use Rattle.pages.proofs.BothWays.{there_and_back}
use Rattle.pages.proofs.there_and_back.Goals as goal

pub returns : goal.returns
returns c = there_and_back
