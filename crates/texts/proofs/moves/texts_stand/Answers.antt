use Rattle.texts.proofs.Adequate.{text_is}
use Rattle.texts.proofs.moves.texts_stand.Goals as goal

pub returns : goal.returns
returns c = text_is
