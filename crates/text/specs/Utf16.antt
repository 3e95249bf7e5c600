-- UTF-16 units, as RFC 2781 defines them.
use Rattle.std.specs.Prelude.{◌≡◌, ℕ, ◌+◌, ◌-◌, ◌*◌, ◌/◌, ◌%◌, ◌≤◌, Bool, true, cond, ◌&&◌, List, [], ◌∷◌, Some, None, Option, nat_le}
use Rattle.text.specs.Utf8.{scalar, BothWays}

abbrev pub surrogate : ℕ → Bool
surrogate unit = nat_le 0xD800 unit && nat_le unit 0xDFFF

abbrev pub high_surrogate : ℕ → Bool
high_surrogate unit = nat_le 0xD800 unit && nat_le unit 0xDBFF

abbrev pub low_surrogate : ℕ → Bool
low_surrogate unit = nat_le 0xDC00 unit && nat_le unit 0xDFFF

-- Section 2.2, decoding: the scalar value of one unit, or of two.
abbrev pub decode : ℕ → Option ℕ → Option ℕ
decode first None = cond (surrogate first) None (Some first)
decode first (Some second) =
    cond (high_surrogate first && low_surrogate second) (Some ((first - 0xD800) * 0x400 + (second - 0xDC00) + 0x10000)) None

-- Section 2.1, encoding: the units of a scalar value.
abbrev pub units : ℕ → List ℕ
units c = cond (nat_le c 0xFFFF) (c ∷ []) ((0xD800 + (c - 0x10000) / 0x400) ∷ (0xDC00 + (c - 0x10000) % 0x400) ∷ [])

abbrev pub listed : ℕ → Option ℕ → List ℕ
listed first None = first ∷ []
listed first (Some second) = first ∷ second ∷ []

-- Units decode to c exactly where c is a scalar value and they encode it.
abbrev pub Utf16Agrees : Type 0
Utf16Agrees = (first : ℕ) (second : Option ℕ) (c : ℕ) → first ≤ 0xFFFF → BothWays (decode first second ≡ Some c) ((scalar c ≡ true) × (units c ≡ listed first second))
