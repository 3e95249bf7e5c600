-- Texts: plain tokens, quoted texts and their escapes.
use Rattle.std.specs.Prelude.{ℕ, zero, suc, ◌+◌, Bool, false, cond, ◌&&◌, ◌||◌, List, [], ◌∷◌, ◌++◌, length, ℤ, Some, None, Err, Option, ◌==◌, nat_le}
use Rattle.text.specs.Digits.{numeral}
use Rattle.text.specs.Nextstep.{nextstep}
use Rattle.text.specs.Numbers.{number}
use Rattle.text.specs.Utf16.{surrogate, decode}
use Rattle.text.specs.Utf8.{utf8, encode}
use Rattle.stream.specs.Streams.{Ev}
use Rattle.stream.specs.declared.errors.Error.TheVariants.{TextTooLong, UnclosedString, InvalidUtf8AsciiStream, InvalidOctalString, InvalidUtf16String}
use Rattle.reader.specs.Steps.{Run, pure, refuse, ◌>>=◌, whether, or_refuse, step_gives, step, peek, then}

-- the most bytes that a text has
abbrev pub text_bytes : ℕ
text_bytes = 1024

-- A text with more bytes behind it, if that is not too long. They are added together or not at all.
abbrev pub added : List ℕ → List ℕ → Run (List ℕ)
added bs cs = whether (nat_le (length bs + length cs) text_bytes) (pure (bs ++ cs)) (refuse TextTooLong)

-- a whole text, which has to be UTF-8
abbrev pub whole_text : List ℕ → Run (List ℕ)
whole_text bs = whether (utf8 bs) (pure bs) (refuse InvalidUtf8AsciiStream)

-- The bytes that end a plain token: space, `)`, CR, tab, `;`, `,`, LF, `}` and `=`.
abbrev pub ends_plain_lem : ℕ → Bool
ends_plain_lem x = x == 32 || (x == 41 || (x == 13 || (x == 9 || (x == 59 || (x == 44 || (x == 10 || (x == 125 || x == 61)))))))

-- A plain token of which the bytes bs were taken goes on to a byte that ends it, which it leaves, or to the end.
abbrev pub plain : List ℕ → Run (List ℕ)
plain bs p [] e = pure bs p [] e
plain bs p (x ∷ xs) e =
    cond (ends_plain_lem x) (pure bs p (x ∷ xs) e)
    (then (step_gives p (x ∷ xs) e) (cond (nat_le text_bytes (length bs)) (Err (TextTooLong (p + 1))) (plain (bs ++ x ∷ []) (p + 1) xs e)))

-- a text that reads as a number is an Integer, any other a String
abbrev pub integer_or_string : List ℕ → Option ℤ → Ev
integer_or_string bs (Some z) = Ev.Integer z
integer_or_string bs None = Ev.String bs

-- the plain token that begins with x, which was taken
abbrev pub unquoted : ℕ → Run Ev
unquoted x = do
  bs ← plain (x ∷ [])
  text ← whole_text bs
  pure (integer_or_string text (number text))

-- a byte of a quoted text or one of its escapes: the end is refused
abbrev pub present : Option ℕ → Run ℕ
present None = refuse UnclosedString
present (Some x) = pure x

abbrev pub quoted_byte : Run ℕ
quoted_byte = do
  c ← step
  present c

-- `\`, `"` and `'` stand for themselves, and a, b, f, n, r, t, v for the control characters that they name in C.
abbrev pub named : ℕ → Option ℕ
named x =
    cond (x == 92 || (x == 34 || x == 39)) (Some x)
    (cond (x == 97) (Some 7)
    (cond (x == 98) (Some 8)
    (cond (x == 102) (Some 12)
    (cond (x == 110) (Some 10)
    (cond (x == 114) (Some 13)
    (cond (x == 116) (Some 9)
    (cond (x == 118) (Some 11) None)))))))

-- Three octal digits, of which the first was taken: a character of the NEXTSTEP encoding from 128 to 255, any other by its code point.
abbrev pub octal_escape_lem : ℕ → Run ℕ
octal_escape_lem a = do
  b ← quoted_byte
  c ← quoted_byte
  code ← or_refuse InvalidOctalString (numeral 8 (a ∷ b ∷ c ∷ []))
  pure (nextstep code)

-- a UTF-16 code unit in four hexadecimal digits
abbrev pub utf16_code_unit_lem : Run ℕ
utf16_code_unit_lem = do
  a ← quoted_byte
  b ← quoted_byte
  c ← quoted_byte
  d ← quoted_byte
  or_refuse InvalidUtf16String (numeral 16 (a ∷ b ∷ c ∷ d ∷ []))

abbrev pub letter_u : Option ℕ → Bool
letter_u None = false
letter_u (Some x) = x == 117 || x == 85

-- behind the byte x, which has to be a backslash, with the lookahead y, which has to be `u` or `U`
abbrev pub second_opened : ℕ → Option ℕ → Run ℕ
second_opened x y = whether (x == 92 && letter_u y) (quoted_byte >>= λ letter. utf16_code_unit_lem) (refuse InvalidUtf16String)

-- the second unit of a surrogate pair, in an escape of its own: `\u` or `\U` and four digits
abbrev pub second_code_unit_lem : Run ℕ
second_code_unit_lem = do
  x ← quoted_byte
  y ← peek
  second_opened x y

-- a unit that is a surrogate needs a second
abbrev pub second_if : Bool → Run (Option ℕ)
second_if needed = whether needed (second_code_unit_lem >>= λ unit. pure (Some unit)) (pure None)

-- the character of one unit, or of two that are a pair by RFC 2781
abbrev pub utf16_escape_lem : Run ℕ
utf16_escape_lem = do
  unit ← utf16_code_unit_lem
  second ← second_if (surrogate unit)
  or_refuse InvalidUtf16String (decode unit second)

-- the character that an escape stands for whose first byte behind the backslash, x, was taken
abbrev pub escaped : ℕ → Run ℕ
escaped x =
    whether (nat_le 48 x && nat_le x 55) (octal_escape_lem x)
    (whether (x == 85) utf16_escape_lem (or_refuse InvalidUtf8AsciiStream (named x)))

abbrev pub escape : Run ℕ
escape = do
  x ← quoted_byte
  escaped x

-- what the byte x of a quoted text adds to it: a backslash begins an escape, whose character is added in UTF-8
abbrev pub piece : ℕ → Run (List ℕ)
piece x = whether (x == 92) (escape >>= λ c. pure (encode c)) (pure (x ∷ []))

-- a quoted text bs with what the byte x adds to it
abbrev pub extended : List ℕ → ℕ → Run (List ℕ)
extended bs x = do
  cs ← piece x
  added bs cs

-- A text quoted by q, of which bs was made, goes on to the next q that belongs to no escape. It goes on at most n times.
unfoldable pub quoted_within : ℕ → ℕ → List ℕ → Run (List ℕ)
quoted_within zero q bs = refuse UnclosedString
quoted_within (suc n) q bs = do
  x ← quoted_byte
  whether (x == q) (pure bs) (extended bs x >>= quoted_within n q)

-- there is no need to go on more often than there are bytes
unfoldable pub quoted_from : ℕ → List ℕ → Run (List ℕ)
quoted_from q bs p xs e = quoted_within (suc (length xs)) q bs p xs e

-- the text behind the quote q, which was taken
abbrev pub quoted : ℕ → Run Ev
quoted q = do
  bs ← quoted_from q []
  text ← whole_text bs
  pure (Ev.String text)
