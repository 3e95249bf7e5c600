use Rattle.std.proofs.Common.{◌-◌, arith}
use Rattle.text.proofs.Tables.{table_scalar}
use Rattle.text.proofs.nextstep.map_next_step_to_unicode.Goals as goal

pub returns-in-128-to-255-clause-scalar : goal.returns-in-128-to-255-clause-scalar
returns-in-128-to-255-clause-scalar c = λ _. rw c.from.ensures (table_scalar (c.args.c - 128) (omega arith))
