-- Sample numbers, at the limits of the syntax and of the range, computed from the definition.
use Rattle.std.specs.Prelude.{◌≡◌, ◌-◌, ◌^◌, ◌++◌, replicate, pos, Some, None, codes}
use Rattle.text.specs.Numbers.{minus, number}

pub record Samples : Type 0 where
  pub lowest : number (codes "-9223372036854775808") ≡ Some (minus (2 ^ 63))
  pub too_low : number (codes "-9223372036854775809") ≡ None
  pub highest : number (codes "18446744073709551615") ≡ Some (pos (2 ^ 64 - 1))
  pub too_high : number (codes "18446744073709551616") ≡ None
  pub plus : number (codes "+18446744073709551615") ≡ Some (pos (2 ^ 64 - 1))
  pub minus_zero : number (codes "-0") ≡ Some (pos 0)
  pub no_octal : number (codes "010") ≡ Some (pos 10)
  pub zeros : number (replicate 100 48 ++ codes "7") ≡ Some (pos 7)
  pub hexadecimal : number (codes "0x10") ≡ Some (pos 16)
  pub either_case : number (codes "0xfF") ≡ Some (pos 255)
  pub highest_hexadecimal : number (codes "0xffffffffffffffff") ≡ Some (pos (2 ^ 64 - 1))
  pub too_high_hexadecimal : number (codes "0x10000000000000000") ≡ None
  pub zeros_hexadecimal : number (codes "0x00000000000000000001") ≡ Some (pos 1)
  pub no_digits : number (codes "0x") ≡ None
  pub capital : number (codes "0X1") ≡ None
  pub twice : number (codes "0x0x10") ≡ None
  pub sign_behind : number (codes "0x+1") ≡ None
  pub sign_before : number (codes "-0x1") ≡ None
  pub sign_alone : number (codes "-") ≡ None
  pub two_signs : number (codes "+-1") ≡ None
  pub empty : number (codes "") ≡ None
