use Rattle.text.proofs.LineTexts.{text-faithful}
use Rattle.text.proofs.promises.text_stands.Goals as goal

pub returns : goal.returns
returns c = text-faithful
