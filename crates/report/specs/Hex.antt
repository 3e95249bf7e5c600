-- Numbers and bytes in hexadecimal.
use Rattle.std.specs.Prelude.{◌≡◌, ℕ, ◌+◌, ◌*◌, ◌/◌, ◌%◌, ◌^◌, ◌<◌, cond, ◌&&◌, List, [], ◌∷◌, length, Some, None, Option, ◌==◌, nat_lt, slice_index}
use Rattle.text.specs.Digits.{digit_of}

-- `0` to `9`, and then `a` to `f`
abbrev pub hex_digit : ℕ → ℕ
hex_digit n = cond (nat_lt n 10) (48 + n) (87 + n)

-- two digits for each byte
abbrev pub hex : List ℕ → List ℕ
hex [] = []
hex (b ∷ bs) = hex_digit (b / 16) ∷ hex_digit (b % 16) ∷ hex bs

-- the eight bytes of a 64-bit number, the highest first
abbrev pub eight_bytes : ℕ → List ℕ
eight_bytes n =
    (n / 2 ^ 56 % 256) ∷ (n / 2 ^ 48 % 256) ∷ (n / 2 ^ 40 % 256) ∷ (n / 2 ^ 32 % 256) ∷ (n / 2 ^ 24 % 256) ∷ (n / 2 ^ 16 % 256) ∷ (n / 2 ^ 8 % 256) ∷ (n % 256) ∷ []

-- a byte from its two digits, if both are digits
abbrev pub byte_of : Option ℕ → Option ℕ → Option ℕ
byte_of (Some high) (Some low) = Some (high * 16 + low)
byte_of (Some high) None = None
byte_of None low = None

abbrev pub before : Option ℕ → Option (List ℕ) → Option (List ℕ)
before (Some b) (Some bs) = Some (b ∷ bs)
before (Some b) None = None
before None bs = None

-- the bytes that hexadecimal digits write, two digits a byte, `a` to `f` in either case; none of any other text
abbrev pub from_hex : List ℕ → Option (List ℕ)
from_hex [] = Some []
from_hex (a ∷ []) = None
from_hex (a ∷ (b ∷ text)) = before (byte_of (digit_of 16 a) (digit_of 16 b)) (from_hex text)

-- the same of a word of a script, which has a byte at least, and where `-` stands for no bytes
abbrev pub from_word : List ℕ → Option (List ℕ)
from_word word = cond (length word == 0) None (cond (length word == 1 && slice_index word 0 == 45) (Some []) (from_hex word))

abbrev pub Bytes : List ℕ → Type 0
Bytes [] = Unit {0}
Bytes (b ∷ bs) = (b < 256) × Bytes bs

-- what is written in hexadecimal is read back
abbrev pub ReadsBack : Type 0
ReadsBack = (bs : List ℕ) → Bytes bs → from_hex (hex bs) ≡ Some bs
