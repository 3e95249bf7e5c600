use Rattle.std.proofs.Common.{rules}
use Rattle.text.proofs.Places.{reads_all}
use Rattle.text.proofs.digits.magnitude.Goals as goal

pub loop-byte-init : goal.loop-byte-init
loop-byte-init c = reads_all c.args.base c.args.digits.now c.requires (search rules)
