use Rattle.std.proofs.Common.{arith}
use Rattle.text.proofs.Rows.{no_row}
use Rattle.text.proofs.utf8.after_char.Goals as goal

pub returns-in_default-clause-none : goal.returns-in_default-clause-none
returns-in_default-clause-none c = no_row c.args.lead c.args.behind.now (λ w. grind arith) (λ w. grind arith) (λ w. grind arith) (λ w. grind arith)
