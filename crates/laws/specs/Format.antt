-- The format of ASCII property lists in its own words: which bytes stand for which events.
-- A list is a row of tokens. That brackets match, and keys stand before values, is no matter of this format but of the tree that is made of the events.
use Rattle.std.specs.Prelude.{◌≡◌, ℕ, ◌≤◌, true, ◌≢◌, ◌⊎◌, List, [], ◌∷◌, ◌++◌, length, ℤ, Some, None, codes}
use Prim.Native.Char.{code}
use Rattle.text.specs.Digits.{numeral}
use Rattle.text.specs.Nextstep.{nextstep}
use Rattle.text.specs.Notation.{Writes}
use Rattle.text.specs.Ranges.{in_range}
use Rattle.text.specs.Utf16.{decode}
use Rattle.text.specs.Utf8.{Utf8, encode}
use Rattle.stream.specs.Streams.{Ev}

-- The byte is one of these.
abbrev pub OneOf : List ℕ → ℕ → Type 0
OneOf [] x = ⊥
OneOf (y ∷ ys) x = (x ≡ y) ⊎ OneOf ys x

-- Each byte is so.
abbrev pub Each : (ℕ → Type 0) → List ℕ → Type 0
Each P [] = Unit {0}
Each P (x ∷ xs) = P x × Each P xs

-- The word stands nowhere in the bytes.
abbrev pub Without : List ℕ → List ℕ → Type 0
Without word bytes = (before behind : List ℕ) → bytes ≢ before ++ (word ++ behind)

-- Bytes that separate tokens.
abbrev pub separators : List ℕ
separators = codes " \r\t\n,;="

-- Bytes that end a plain token.
abbrev pub plain_ends : List ℕ
plain_ends = codes " )\r\t;,\n}="

-- Bytes that no plain token begins with: separators, brackets and quotes.
abbrev pub no_plain_begins : List ℕ
no_plain_begins = separators ++ codes "({)}'\""

-- A text: UTF-8 (RFC 3629), of at most 1,024 bytes.
pub record Text (text : List ℕ) : Type 0 where
  pub short : length text ≤ 1024
  pub encoded : Utf8 text

-- The escapes of one byte: what stands for itself, and the letters for control characters as in C.
pub data Named : ℕ → ℕ → Type 0 where
  backslash : Named (code "\\") (code "\\")
  double_quote : Named (code "\"") (code "\"")
  single_quote : Named (code "'") (code "'")
  alert : Named (code "a") 7
  backspace : Named (code "b") 8
  form_feed : Named (code "f") 12
  new_line : Named (code "n") 10
  carriage_return : Named (code "r") 13
  horizontal_tab : Named (code "t") 9
  vertical_tab : Named (code "v") 11

-- Four hexadecimal digits write a UTF-16 code unit.
pub record CodeUnit (digits : List ℕ) (unit : ℕ) : Type 0 where
  pub four : length digits ≡ 4
  pub written : numeral 16 digits ≡ Some unit

-- What may stand behind a backslash, and the code point of the character that it stands for: a named character;
-- three octal digits, from 128 to 255 a character of the NEXTSTEP encoding (NEXTSTEP.TXT), else a code point;
-- `U` and a UTF-16 code unit, or two of them that are a surrogate pair (RFC 2781), the second behind `\u` or `\U`.
pub data Escape : List ℕ → ℕ → Type 0 where
  named : {x character : ℕ} → Named x character → Escape (x ∷ []) character
  octal : {a b c number : ℕ} → numeral 8 (a ∷ b ∷ c ∷ []) ≡ Some number → Escape (a ∷ b ∷ c ∷ []) (nextstep number)
  unit : {digits : List ℕ} {first character : ℕ} → CodeUnit digits first → decode first None ≡ Some character → Escape (codes "U" ++ digits) character
  pair : {digits digits' : List ℕ} {letter first second character : ℕ} → CodeUnit digits first → OneOf (codes "uU") letter → CodeUnit digits' second
      → decode first (Some second) ≡ Some character → Escape (codes "U" ++ (digits ++ (codes "\\" ++ letter ∷ digits'))) character

-- Bytes between two quote bytes, and the text that they stand for: a byte other than the quote and the backslash stands for itself,
-- a backslash and what may stand behind it for a character in UTF-8.
pub data Quoted (quote : ℕ) : List ℕ → List ℕ → Type 0 where
  nothing : Quoted quote [] []
  byte : {x : ℕ} {body text : List ℕ} → x ≢ quote → x ≢ code "\\" → Quoted quote body text → Quoted quote (x ∷ body) (x ∷ text)
  escape : {bytes body text : List ℕ} {character : ℕ} → Escape bytes character → Quoted quote body text
      → Quoted quote (codes "\\" ++ (bytes ++ body)) (encode character ++ text)

-- A plain token: its first byte is no separator, bracket or quote, and no other byte ends it.
pub record Plain (bytes : List ℕ) : Type 0 where
  pub first : ℕ
  pub others : List ℕ
  pub parts : bytes ≡ first ∷ others
  pub begins : OneOf no_plain_begins first → ⊥
  pub goes_on : Each (λ x. OneOf plain_ends x → ⊥) others
  pub text : Text bytes

-- A number: what is written lies from −2^63 to 2^64 − 1.
abbrev pub Number : List ℕ → ℤ → Type 0
Number bytes z = Writes bytes z × (in_range z ≡ true)

-- A plain token that is a number stands for an Integer, any other for a String.
pub data PlainEvent (bytes : List ℕ) : Ev → Type 0 where
  integer : {z : ℤ} → Number bytes z → PlainEvent bytes (Ev.Integer z)
  string : ((z : ℤ) → Number bytes z → ⊥) → PlainEvent bytes (Ev.String bytes)

-- What may follow a plain token: nothing, or a byte that ends it.
abbrev pub EndsPlain : List ℕ → Type 0
EndsPlain [] = Unit {0}
EndsPlain (x ∷ xs) = OneOf plain_ends x

-- A `/` is followed by some byte, and that is neither `/` nor `*`.
abbrev pub SlashGoesOn : List ℕ → Type 0
SlashGoesOn [] = ⊥
SlashGoesOn (x ∷ xs) = (x ≢ code "/") × (x ≢ code "*")

-- Bytes that begin no comment, not even half of one.
abbrev pub BeginsNoComment : List ℕ → Type 0
BeginsNoComment [] = Unit {0}
BeginsNoComment (x ∷ xs) = x ≡ code "/" → SlashGoesOn xs

-- Bytes that are a token, its event, and what follows it in the list.
pub data Token : List ℕ → Ev → List ℕ → Type 0 where
  array : {rest : List ℕ} → Token (codes "(") (Ev.StartArray None) rest
  dictionary : {rest : List ℕ} → Token (codes "{") (Ev.StartDictionary None) rest
  array_end : {rest : List ℕ} → Token (codes ")") Ev.EndCollection rest
  dictionary_end : {rest : List ℕ} → Token (codes "}") Ev.EndCollection rest
  quoted : {quote : ℕ} {body text rest : List ℕ} → OneOf (codes "'\"") quote → Quoted quote body text → Text text
      → Token (quote ∷ (body ++ quote ∷ [])) (Ev.String text) rest
  plain : {bytes rest : List ℕ} {ev : Ev} → Plain bytes → PlainEvent bytes ev → EndsPlain rest → BeginsNoComment (bytes ++ rest) → Token bytes ev rest

-- `//` and bytes other than a line feed.
pub record LineComment (bytes : List ℕ) : Type 0 where
  pub body : List ℕ
  pub parts : bytes ≡ codes "//" ++ body
  pub one_line : Each (λ x. x ≢ code "\n") body

-- `/*`, and then all up to the first `*/`.
pub record BlockComment (bytes : List ℕ) : Type 0 where
  pub body : List ℕ
  pub parts : bytes ≡ codes "/*" ++ (body ++ codes "*/")
  pub first : Without (codes "*/") body

abbrev pub LineFeedFirst : List ℕ → Type 0
LineFeedFirst [] = ⊥
LineFeedFirst (x ∷ xs) = x ≡ code "\n"

-- Bytes that stand for nothing, and what follows them in the list: a separator, or a comment. The line feed that ends a line comment is a separator behind it.
pub data Skipped : List ℕ → List ℕ → Type 0 where
  separator : {x : ℕ} {rest : List ℕ} → OneOf separators x → Skipped (x ∷ []) rest
  line_comment : {bytes rest : List ℕ} → LineComment bytes → LineFeedFirst rest → Skipped bytes rest
  block_comment : {bytes rest : List ℕ} → BlockComment bytes → Skipped bytes rest

-- Tokens with their events, separators and comments, one after another, and what may stand last.
pub data Items (Last : List ℕ → Type 0) : List ℕ → List Ev → Type 0 where
  last : {bytes : List ℕ} → Last bytes → Items Last bytes []
  skip : {bytes rest : List ℕ} {events : List Ev} → Skipped bytes rest → Items Last rest events → Items Last (bytes ++ rest) events
  token : {bytes rest : List ℕ} {ev : Ev} {events : List Ev} → Token bytes ev rest → Items Last rest events → Items Last (bytes ++ rest) (ev ∷ events)

-- nothing more
abbrev pub Nothing : List ℕ → Type 0
Nothing bytes = bytes ≡ []

-- The bytes stand for the events, and end between tokens.
abbrev pub Between : List ℕ → List Ev → Type 0
Between bytes events = Items Nothing bytes events

-- The bytes are a list of these events: they end between tokens, or in a line comment, which the end of input ends too.
abbrev pub Lists : List ℕ → List Ev → Type 0
Lists bytes events = Items (λ bs. Nothing bs ⊎ LineComment bs) bytes events

-- The bytes start with tokens that stand for the events. What comes behind these may be anything.
abbrev pub StartsWith : List ℕ → List Ev → Type 0
StartsWith bytes events = Items (λ bs. Unit {0}) bytes events
