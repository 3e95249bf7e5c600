use Rattle.laws.proofs.Theorems.{token_by_token_lem}
use Rattle.laws.proofs.laws.token_by_token.Goals as goal

pub returns : goal.returns
returns c = token_by_token_lem c.utf8_agrees.ensures.agrees.test c.notation_stands.ensures
