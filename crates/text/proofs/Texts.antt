-- What is UTF-8, for those who put texts together.
use Rattle.std.proofs.Common.{◌≡◌, ℕ, ◌≤◌, true, List, ◌∷◌, ◌++◌, length, arith}
use Rattle.std.proofs.lemmas.Bool.Decides.{nat_tests}
use Rattle.text.proofs.Grammar.{append_from, syntax_from}
use Rattle.text.specs.Utf8.{utf8, encode}

-- behind UTF-8, the whole is UTF-8 exactly where what follows is
pub utf8_append : (a b : List ℕ) → utf8 a ≡ true → utf8 (a ++ b) ≡ utf8 b
utf8_append a b u = append_from a b (syntax_from a u)

pub utf8_ascii : (b : ℕ) (bs : List ℕ) → b ≤ 0x7F → utf8 (b ∷ bs) ≡ utf8 bs
unfolding utf8
utf8_ascii b bs h = grind (arith, nat_tests)

pub length_encode : (c : ℕ) → (1 ≤ length (encode c)) × (length (encode c) ≤ 4)
unfolding encode
length_encode c = grind (arith, nat_tests)
