-- Readings, computed.
use Rattle.std.specs.Prelude.{◌≡◌, ℕ, List, [], ◌∷◌, ◌++◌, replicate, pos, None, Ok, Err, codes}
use Rattle.source.specs.Endings.{at_end, faulty}
use Rattle.stream.specs.Streams.{Ev, stream}
use Rattle.stream.specs.declared.errors.Error.{Error}
use Rattle.stream.specs.declared.errors.Error.TheVariants.{Io, TextTooLong, UnclosedString, IncompleteComment, InvalidUtf8AsciiStream, InvalidOctalString, InvalidUtf16String}
use Rattle.reader.specs.Readings.{reading}

-- the bytes are the whole of a source that ends with the end, and read as these events, and then the end
abbrev pub ◌reads◌ : List ℕ → List Ev → Type 0
bytes reads events = reading 0 bytes at_end ≡ stream events (Ok tt)

-- or nothing but a refusal
abbrev pub ◌refused◌ : List ℕ → Error → Type 0
bytes refused error = reading 0 bytes at_end ≡ stream [] (Err error)

infix 30 ◌reads◌
infix 30 ◌refused◌
-- a text in double quotes
abbrev pub in_quotes : List ℕ → List ℕ
in_quotes bs = 34 ∷ (bs ++ 34 ∷ [])

pub record Samples : Type 0 where
  pub slash_token : codes "/12" reads Ev.String (codes "/12") ∷ []
  pub slash : codes "/" refused IncompleteComment 1
  pub comment : codes "/**/ 5" reads Ev.Integer (pos 5) ∷ []
  pub half_comment : codes "/*/ 5" refused IncompleteComment 5
  pub open_comment : codes "/*" refused IncompleteComment 2
  pub octal_nextstep : in_quotes (codes "\\256") reads Ev.String (0xEF ∷ 0xAC ∷ 0x81 ∷ []) ∷ []
  pub octal_high : in_quotes (codes "\\400") reads Ev.String (0xC4 ∷ 0x80 ∷ []) ∷ []
  pub octal_short : in_quotes (codes "\\28") refused InvalidOctalString 5
  pub unit_plus : in_quotes (codes "\\U+041") refused InvalidUtf16String 7
  pub unit_pair : in_quotes (codes "\\UD83D\\uDCA9") reads Ev.String (0xF0 ∷ 0x9F ∷ 0x92 ∷ 0xA9 ∷ []) ∷ []
  pub unit_swapped : in_quotes (codes "\\UDCA9\\uD83D") refused InvalidUtf16String 13
  pub hexadecimal : codes "0x10" reads Ev.Integer (pos 16) ∷ []
  pub hexadecimal_twice : codes "0x0x10" reads Ev.String (codes "0x0x10") ∷ []
  pub too_low : codes "-9223372036854775809" reads Ev.String (codes "-9223372036854775809") ∷ []
  pub dictionary : codes "{a=1}" reads Ev.StartDictionary None ∷ Ev.String (codes "a") ∷ Ev.Integer (pos 1) ∷ Ev.EndCollection ∷ []
  pub array : codes "(1 2 }" reads Ev.StartArray None ∷ Ev.Integer (pos 1) ∷ Ev.Integer (pos 2) ∷ Ev.EndCollection ∷ []
  pub quoted_digits : in_quotes (codes "12") reads Ev.String (codes "12") ∷ []
  pub quoted_quote : in_quotes (codes "\\\"") reads Ev.String (34 ∷ []) ∷ []
  pub line_feed : 97 ∷ 10 ∷ 98 ∷ [] reads Ev.String (97 ∷ []) ∷ Ev.String (98 ∷ []) ∷ []
  pub line_comment : 47 ∷ 47 ∷ 97 ∷ 10 ∷ 98 ∷ [] reads Ev.String (98 ∷ []) ∷ []
  pub unclosed : codes "'a" refused UnclosedString 2
  pub unknown_escape : in_quotes (codes "\\q") refused InvalidUtf8AsciiStream 3
  pub not_utf8 : 255 ∷ [] refused InvalidUtf8AsciiStream 1
  pub lone_unit : in_quotes (codes "\\UDCA9") refused InvalidUtf16String 8
  pub longest : replicate 1024 97 reads Ev.String (replicate 1024 97) ∷ []
  pub too_long : replicate 1025 49 refused TextTooLong 1025
  pub torn : reading 0 (codes "a b") (faulty 7) ≡ stream (Ev.String (codes "a") ∷ []) (Err (Io 7 2))
