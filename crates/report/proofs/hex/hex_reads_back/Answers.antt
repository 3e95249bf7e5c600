use Rattle.report.proofs.Digits.{reads_back}
use Rattle.report.proofs.hex.hex_reads_back.Goals as goal

pub returns : goal.returns
returns c = reads_back
