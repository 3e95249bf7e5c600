-- Number syntax: which bytes are a number, and which number they are.
-- A number is one or more decimal digits with an optional `+` or `-` in front, or `0x` and one or more hexadecimal digits, as in NetBSD's
-- PROP_NUMBER(3), and lies from −2^63 to 2^64 − 1.
use Rattle.std.specs.Prelude.{ℕ, ◌^◌, Bool, true, false, cond, ◌&&◌, List, [], ◌∷◌, drop, ℤ, pos, neg_ℤ, Some, None, codes, Option, ◌==◌, nat_lt}
use Rattle.std.specs.Option.{option_map}
use Rattle.text.specs.Digits.{numeral}
use Rattle.text.specs.Integers.{value}
use Rattle.text.specs.Ranges.{lowest_signed, highest_unsigned, within}
use Rattle.text.specs.declared.integer.Integer.{Integer}

-- the bytes begin with this text
abbrev pub begins : List ℕ → List ℕ → Bool
begins [] bs = true
begins (t ∷ text) [] = false
begins (t ∷ text) (b ∷ bs) = t == b && begins text bs

abbrev pub minus : ℕ → ℤ
minus n = neg_ℤ (pos n)

-- decimal digits with an optional sign
abbrev pub decimal : List ℕ → Option ℤ
decimal bs =
    cond (begins (codes "-") bs) (option_map minus (numeral 10 (drop 1 bs)))
    (cond (begins (codes "+") bs) (option_map pos (numeral 10 (drop 1 bs)))
    (option_map pos (numeral 10 bs)))

-- the integer that the bytes write, of any size
abbrev pub written : List ℕ → Option ℤ
written bs = cond (begins (codes "0x") bs) (option_map pos (numeral 16 (drop 2 bs))) (decimal bs)

abbrev pub ranged : Option ℤ → Option ℤ
ranged None = None
ranged (Some z) = within lowest_signed highest_unsigned z

unfoldable pub number : List ℕ → Option ℤ
number bs = ranged (written bs)

-- by value
abbrev pub numbered : Option Integer → Option ℤ
numbered r = option_map value r

-- a value, if it fits 64 bits
abbrev pub fitting : Option ℕ → Option ℕ
fitting None = None
fitting (Some n) = cond (nat_lt n (2 ^ 64)) (Some n) None
