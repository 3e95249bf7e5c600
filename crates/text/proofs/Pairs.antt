-- Units of UTF-16 decode to what they encode.
use Rattle.std.proofs.Common.{Some, None, arith}
use Rattle.std.proofs.lemmas.Bool.Decides.{nat_tests}
use Rattle.text.specs.Utf16.{Utf16Agrees}

pub agrees : Utf16Agrees
agrees first None c l = (λ e. grind (arith, nat_tests), λ a. grind (arith, nat_tests))
agrees first (Some second) c l = (λ e. grind (arith, nat_tests), λ a. grind (arith, nat_tests))
