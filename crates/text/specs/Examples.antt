-- The worked examples of RFC 3629 (its sections 3 and 7) and RFC 2781 (its section 5), computed.
use Rattle.std.specs.Prelude.{◌≡◌, true, false, [], ◌∷◌, Some, None}
use Rattle.text.specs.Utf16.{decode, units}
use Rattle.text.specs.Utf8.{utf8, encodes}

pub record Examples : Type 0 where
  -- A<NOT IDENTICAL TO><ALPHA>.
  pub letters : encodes (0x0041 ∷ 0x2262 ∷ 0x0391 ∷ 0x002E ∷ []) ≡ 0x41 ∷ 0xE2 ∷ 0x89 ∷ 0xA2 ∷ 0xCE ∷ 0x91 ∷ 0x2E ∷ []
  -- the Korean word hangugeo
  pub korean : encodes (0xD55C ∷ 0xAD6D ∷ 0xC5B4 ∷ []) ≡ 0xED ∷ 0x95 ∷ 0x9C ∷ 0xEA ∷ 0xB5 ∷ 0xAD ∷ 0xEC ∷ 0x96 ∷ 0xB4 ∷ []
  -- the Japanese word nihongo
  pub japanese : encodes (0x65E5 ∷ 0x672C ∷ 0x8A9E ∷ []) ≡ 0xE6 ∷ 0x97 ∷ 0xA5 ∷ 0xE6 ∷ 0x9C ∷ 0xAC ∷ 0xE8 ∷ 0xAA ∷ 0x9E ∷ []
  -- a Chinese character behind a byte order mark
  pub chinese : encodes (0xFEFF ∷ 0x233B4 ∷ []) ≡ 0xEF ∷ 0xBB ∷ 0xBF ∷ 0xF0 ∷ 0xA3 ∷ 0x8E ∷ 0xB4 ∷ []
  pub valid : utf8 (0xEF ∷ 0xBB ∷ 0xBF ∷ 0xF0 ∷ 0xA3 ∷ 0x8E ∷ 0xB4 ∷ []) ≡ true
  -- an overlong U+0000, and a pair of surrogates
  pub overlong : utf8 (0xC0 ∷ 0x80 ∷ []) ≡ false
  pub surrogates : utf8 (0xED ∷ 0xA1 ∷ 0x8C ∷ 0xED ∷ 0xBE ∷ 0xB4 ∷ []) ≡ false
  -- the hieroglyph Ra
  pub ra : units 0x12345 ≡ 0xD808 ∷ 0xDF45 ∷ []
  pub ra_back : decode 0xD808 (Some 0xDF45) ≡ Some 0x12345
  pub swapped : decode 0xDF45 (Some 0xD808) ≡ None
