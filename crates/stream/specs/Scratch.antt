-- What a scratch holds: a text at its front, zeros up to byte 1,024, and bytes that nobody touches.
use Rattle.std.specs.Prelude.{◌≡◌, ℕ, ◌-◌, min, max, List, ◌++◌, length, take, drop, replicate}

-- what stands past byte 1,024. It is shut, so that no tactic counts down from 1,024
unfoldable pub beyond : List ℕ → List ℕ
beyond s = drop 1024 s

-- zeros from byte n up to byte 1,024, and then what s holds. It is shut, so that the zeros are not written out
unfoldable pub behind : ℕ → List ℕ → List ℕ
behind n s = replicate (1024 - n) 0 ++ drop 1024 s

-- s with zeros from byte n up to byte 1,024, or up to its end
unfoldable pub zeroed : ℕ → List ℕ → List ℕ
zeroed n s = take n s ++ (replicate (min (length s) 1024 - n) 0 ++ drop (max n 1024) s)

-- s was lent and is s' now: the first n bytes may be any, and behind them stand the zeros
abbrev pub Cleared : ℕ → List ℕ → List ℕ → Type 0
Cleared n s s' = s' ≡ take n s' ++ behind n s
