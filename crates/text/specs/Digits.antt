-- Digits of a base up to 16, and the numbers that they write.
use Prim.Native.Char.{code}
use Rattle.std.specs.Prelude.{ℕ, ◌+◌, ◌-◌, ◌*◌, ◌^◌, Bool, true, cond, ◌&&◌, List, [], ◌∷◌, length, Some, None, Option, nat_le, nat_lt}

-- the byte's value as a digit: `0` to `9`, then `a` to `f` or `A` to `F`; any other byte has 16, which is no digit in a base up to 16
abbrev pub digit_value : ℕ → ℕ
digit_value b =
    cond (nat_le (code "0") b && nat_le b (code "9")) (b - code "0")
    (cond (nat_le (code "a") b && nat_le b (code "f")) (b - code "a" + 10)
    (cond (nat_le (code "A") b && nat_le b (code "F")) (b - code "A" + 10) 16))

abbrev pub is_digit : ℕ → ℕ → Bool
is_digit base b = nat_lt (digit_value b) base

abbrev pub all_digits : ℕ → List ℕ → Bool
all_digits base [] = true
all_digits base (b ∷ bs) = is_digit base b && all_digits base bs

-- place value: the sum of the digits' values, each times the base to the power of the number of digits behind it
abbrev pub place_value : ℕ → List ℕ → ℕ
place_value base [] = 0
place_value base (b ∷ bs) = digit_value b * base ^ length bs + place_value base bs

-- the value of one or more digits
abbrev pub numeral : ℕ → List ℕ → Option ℕ
numeral base [] = None
numeral base (b ∷ bs) = cond (all_digits base (b ∷ bs)) (Some (place_value base (b ∷ bs))) None

-- a byte as a digit of the base
abbrev pub digit_of : ℕ → ℕ → Option ℕ
digit_of base b = cond (is_digit base b) (Some (digit_value b)) None
