use Rattle.text.proofs.Pairs.{agrees}
use Rattle.text.proofs.utf16.utf16_agrees.Goals as goal

pub returns : goal.returns
returns c = agrees
