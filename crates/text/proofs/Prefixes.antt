-- What the first bytes say of a number.
use Rattle.std.proofs.Common.{◌≡◌, ℕ, ◌-◌, ◌≤◌, List, [], ◌∷◌, length, get_or, take, drop, pos, arith}
use Rattle.std.proofs.lemmas.List.{take_rest}
use Rattle.std.specs.Option.{option_map}
use Rattle.text.specs.Digits.{numeral}
use Rattle.text.specs.Numbers.{minus, decimal, written}

pub decimal_minus : (bs : List ℕ) → 1 ≤ length bs → get_or bs 0 0 ≡ 45 → decimal bs ≡ option_map minus (numeral 10 (take (length bs - 1) (drop 1 bs)))
decimal_minus [] any first = absurd (omega arith)
decimal_minus (b ∷ bs) any first = rw (take_rest, first)

pub decimal_plus : (bs : List ℕ) → 1 ≤ length bs → get_or bs 0 0 ≡ 43 → decimal bs ≡ option_map pos (numeral 10 (take (length bs - 1) (drop 1 bs)))
decimal_plus [] any first = absurd (omega arith)
decimal_plus (b ∷ bs) any first = rw (take_rest, first)

pub written_hexadecimal : (bs : List ℕ) → 2 ≤ length bs → get_or bs 0 0 ≡ 48 → get_or bs 1 0 ≡ 120 → written bs ≡ option_map pos (numeral 16 (take (length bs - 2) (drop 2 bs)))
written_hexadecimal [] any first second = absurd (omega arith)
written_hexadecimal (b ∷ []) any first second = absurd (omega arith)
written_hexadecimal (b ∷ x ∷ bs) any first second = rw (take_rest, first, second)
