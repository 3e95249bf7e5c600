use Rattle.text.proofs.Forms.{one_form_each_lem}
use Rattle.text.proofs.integer.methods.one_form_each.Goals as goal

pub returns : goal.returns
returns c = one_form_each_lem
