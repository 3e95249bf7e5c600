-- How numbers are written, as a relation, and what it has to do with `number`.
use Rattle.std.specs.Prelude.{◌≡◌, ℕ, ◌<◌, true, List, ◌++◌, length, ℤ, pos, Some, codes}
use Rattle.std.specs.Fmt.{signed_decimal}
use Rattle.text.specs.Integers.{value}
use Rattle.text.specs.Digits.{all_digits, place_value}
use Rattle.text.specs.Numbers.{minus, number}
use Rattle.text.specs.Ranges.{in_range}
use Rattle.text.specs.declared.integer.Integer.{Integer}

-- one or more digits of the base
pub record Digits (base : ℕ) (ds : List ℕ) : Type 0 where
  pub some : 0 < length ds
  pub each : all_digits base ds ≡ true

-- the bytes write the integer z
pub data Writes (bs : List ℕ) (z : ℤ) : Type 0 where
  plain : Digits 10 bs → z ≡ pos (place_value 10 bs) → Writes bs z
  plus : (ds : List ℕ) → bs ≡ codes "+" ++ ds → Digits 10 ds → z ≡ pos (place_value 10 ds) → Writes bs z
  negative : (ds : List ℕ) → bs ≡ codes "-" ++ ds → Digits 10 ds → z ≡ minus (place_value 10 ds) → Writes bs z
  hexadecimal : (ds : List ℕ) → bs ≡ codes "0x" ++ ds → Digits 16 ds → z ≡ pos (place_value 16 ds) → Writes bs z

-- bytes are a number exactly where they write an integer from −2^63 to 2^64 − 1, and are that number;
-- what an Integer is displayed as is read as that Integer's value
pub record Notation : Type 0 where
  pub writes : (bs : List ℕ) (z : ℤ) → number bs ≡ Some z → Writes bs z × (in_range z ≡ true)
  pub reads : (bs : List ℕ) (z : ℤ) → Writes bs z → in_range z ≡ true → number bs ≡ Some z
  pub back : (i : Integer) → number (signed_decimal (value i)) ≡ Some (value i)
