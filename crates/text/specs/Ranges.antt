-- Ranges of integers: those of 64 bits, signed (two's complement) and unsigned.
use Rattle.std.specs.Prelude.{◌-◌, ◌^◌, Bool, cond, ◌&&◌, ℤ, pos, neg_ℤ, Some, None, Option, int_le}

abbrev pub lowest_signed : ℤ
lowest_signed = neg_ℤ (pos (2 ^ 63))

abbrev pub highest_signed : ℤ
highest_signed = pos (2 ^ 63 - 1)

abbrev pub highest_unsigned : ℤ
highest_unsigned = pos (2 ^ 64 - 1)

-- low ≤ z ≤ high
abbrev pub between : ℤ → ℤ → ℤ → Bool
between low high z = int_le low z && int_le z high

-- z lies from −2^63 to 2^64 − 1: it is an integer of 64 bits, signed or unsigned
abbrev pub in_range : ℤ → Bool
in_range z = between lowest_signed highest_unsigned z

-- z if it lies in the range, else nothing
abbrev pub within : ℤ → ℤ → ℤ → Option ℤ
within low high z = cond (between low high z) (Some z) None
