use Rattle.std.proofs.Common.{◌≡◌, drop}
use Rattle.text.specs.Digits.{numeral}
use Rattle.text.specs.Numbers.{fitting}
use Rattle.text.proofs.Places.{reads}
use Rattle.text.proofs.digits.magnitude.Given as goal

abbrev pub invariant-loop-byte : goal.invariant-loop-byte
invariant-loop-byte l = reads l.base l.n (drop l.byte-index l.digits) ≡ fitting (numeral l.base l.digits)
