use Rattle.text.proofs.Writing.{notation}
use Rattle.text.proofs.numbers.notation_stands.Goals as goal

pub returns : goal.returns
returns c = notation
