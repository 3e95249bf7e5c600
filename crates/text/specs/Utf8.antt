-- UTF-8, as RFC 3629 defines it: the syntax of its section 4, and the encoding of its section 3.
use Rattle.std.specs.Prelude.{◌≡◌, ℕ, ◌+◌, ◌/◌, ◌%◌, ◌^◌, ◌≤◌, Bool, true, false, cond, ◌&&◌, ◌||◌, List, [], ◌∷◌, ◌++◌, length, take, drop, Some, None, IsUtf8 as StdUtf8, Decides, Option, nat_le}

-- A range of bytes, with both ends: `0xC2 to 0xDF` is the RFC's %xC2-DF.
pub data Range : Type 0 where
  ◌to◌ : ℕ → ℕ → Range

infix 70 ◌to◌
-- whether the byte is in the range
abbrev pub inside : Range → ℕ → Bool
inside (low to high) b = nat_le low b && nat_le b high

-- UTF8-tail
abbrev pub tail : Range
tail = 0x80 to 0xBF

-- UTF8-char: a row for each of its forms, with the ranges of the form's bytes.
abbrev pub utf8_char : List (List Range)
utf8_char =
    (0x00 to 0x7F ∷ [])
    ∷ (0xC2 to 0xDF ∷ tail ∷ [])
    ∷ (0xE0 to 0xE0 ∷ 0xA0 to 0xBF ∷ tail ∷ [])
    ∷ (0xE1 to 0xEC ∷ tail ∷ tail ∷ [])
    ∷ (0xED to 0xED ∷ 0x80 to 0x9F ∷ tail ∷ [])
    ∷ (0xEE to 0xEF ∷ tail ∷ tail ∷ [])
    ∷ (0xF0 to 0xF0 ∷ 0x90 to 0xBF ∷ tail ∷ tail ∷ [])
    ∷ (0xF1 to 0xF3 ∷ tail ∷ tail ∷ tail ∷ [])
    ∷ (0xF4 to 0xF4 ∷ 0x80 to 0x8F ∷ tail ∷ tail ∷ [])
    ∷ []

-- One byte in each range of the row.
pub data OfRow : List Range → List ℕ → Type 0 where
  none : OfRow [] []
  more : {r : Range} {rs : List Range} {b : ℕ} {bs : List ℕ} → inside r b ≡ true → OfRow rs bs → OfRow (r ∷ rs) (b ∷ bs)

-- The bytes of a row of the table.
pub data OfTable : List (List Range) → List ℕ → Type 0 where
  here : {row : List Range} {rows : List (List Range)} {bs : List ℕ} → OfRow row bs → OfTable (row ∷ rows) bs
  there : {row : List Range} {rows : List (List Range)} {bs : List ℕ} → OfTable rows bs → OfTable (row ∷ rows) bs

-- UTF8-octets: characters, one after another.
pub data Utf8 : List ℕ → Type 0 where
  empty : Utf8 []
  then : {c rest bs : List ℕ} → OfTable utf8_char c → Utf8 rest → bs ≡ c ++ rest → Utf8 bs

-- The same as a test that computes, byte by byte. The state is the ranges due before the character is whole:
-- with none due, the first byte of a character says its row.
abbrev pub behind : List (List Range) → ℕ → Option (List Range)
behind [] b = None
behind ([] ∷ rows) b = behind rows b
behind ((r ∷ rs) ∷ rows) b = cond (inside r b) (Some rs) (behind rows b)

abbrev pub step : List Range → ℕ → Option (List Range)
step [] b = behind utf8_char b
step (r ∷ rs) b = cond (inside r b) (Some rs) None

abbrev pub whole : List Range → Bool
whole [] = true
whole (r ∷ rs) = false

abbrev pub goes_on : List Range → List ℕ → Bool
goes_on due [] = whole due
goes_on due (b ∷ bs) = elim (step due b) [ None ↦ false | Some left ↦ goes_on left bs ]

unfoldable pub utf8 : List ℕ → Bool
utf8 bs = goes_on [] bs

-- Unicode scalar values: the code points but for the surrogates.
abbrev pub scalar : ℕ → Bool
scalar c = nat_le c 0xD7FF || (nat_le 0xE000 c && nat_le c 0x10FFFF)

-- The bytes of a scalar value, by the table of section 3: a first byte with the leading bits, then six bits a byte.
abbrev pub low_six_lem : ℕ → ℕ
low_six_lem bits = 0b10_000000 + bits % 2 ^ 6

unfoldable pub encode : ℕ → List ℕ
encode c =
    cond (nat_le c 0x7F) (c ∷ [])
    (cond (nat_le c 0x7FF) ((0b110_00000 + c / 2 ^ 6) ∷ low_six_lem c ∷ [])
    (cond (nat_le c 0xFFFF) ((0b1110_0000 + c / 2 ^ 12) ∷ low_six_lem (c / 2 ^ 6) ∷ low_six_lem c ∷ [])
    ((0b11110_000 + c / 2 ^ 18) ∷ low_six_lem (c / 2 ^ 12) ∷ low_six_lem (c / 2 ^ 6) ∷ low_six_lem c ∷ [])))

abbrev pub scalars : List ℕ → Bool
scalars [] = true
scalars (c ∷ cs) = scalar c && scalars cs

abbrev pub encodes : List ℕ → List ℕ
encodes [] = []
encodes (c ∷ cs) = encode c ++ encodes cs

-- The bytes are those of some scalar values, one after another.
abbrev pub EncodesSome : List ℕ → Type 0
EncodesSome bs = (cs : List ℕ) × (scalars cs ≡ true) × (encodes cs ≡ bs)

-- All ways of saying it agree: the syntax, the test, the encoding, and the standard library's own predicate.
abbrev pub BothWays : Type 0 → Type 0 → Type 0
BothWays P Q = (P → Q) × (Q → P)

pub record Utf8Agrees : Type 0 where
  pub test : (bs : List ℕ) → Decides (utf8 bs) (Utf8 bs)
  pub encoding : (bs : List ℕ) → BothWays (Utf8 bs) (EncodesSome bs)
  pub library : (bs : List ℕ) → BothWays (Utf8 bs) (StdUtf8 bs)

-- What texts are put together from.
pub record Utf8Laws : Type 0 where
  pub append : (a b : List ℕ) → utf8 a ≡ true → utf8 (a ++ b) ≡ utf8 b
  pub one : (c : ℕ) → scalar c ≡ true → utf8 (encode c) ≡ true
  pub lengths : (c : ℕ) → (1 ≤ length (encode c)) × (length (encode c) ≤ 4)
  pub ascii : (b : ℕ) (bs : List ℕ) → b ≤ 0x7F → utf8 (b ∷ bs) ≡ utf8 bs

-- c is a scalar value, and its encoding stands in `after` from `start` to `end`, within what `before` had there, and nothing else changed.
pub record EncodedAt (c start end : ℕ) (before after : List ℕ) : Type 0 where
  pub valid : scalar c ≡ true
  pub ends : end ≡ start + length (encode c)
  pub room : end ≤ length before
  pub bytes : after ≡ take start before ++ (encode c ++ drop end before)

-- The encoding is written from `start` on, up to the answer. Where there is none, c is no scalar value or its encoding does not fit.
abbrev pub Written : ℕ → ℕ → List ℕ → Option ℕ → List ℕ → Type 0
Written c start before None after = (scalar c ≡ true → start + length (encode c) ≤ length before → ⊥) × (after ≡ before)
Written c start before (Some end) after = EncodedAt c start end before after
