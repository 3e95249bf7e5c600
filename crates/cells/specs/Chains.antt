-- Chains of links, and how often an index stands in a list.
use Rattle.std.specs.Prelude.{◌≡◌, ℕ, zero, suc, ◌+◌, ◌<◌, ◌≤◌, cond, List, [], ◌∷◌, length, Some, None, Option, ◌==◌, slice_index_or}

-- Following the links from `head` visits exactly `is`, all in range, and ends.
abbrev pub Chain : List (Option ℕ) → Option ℕ → List ℕ → Type 0
Chain links head [] = head ≡ None
Chain links head (i ∷ is) = (head ≡ Some i) × (i < length links) × Chain links (slice_index_or links i None) is

-- how often i stands in the list
abbrev pub occ : ℕ → List ℕ → ℕ
occ i [] = 0
occ i (x ∷ xs) = cond (i == x) 1 0 + occ i xs

-- no index stands there twice
abbrev pub Once : List ℕ → Type 0
Once is = (i : ℕ) → occ i is ≤ 1

abbrev pub first : List ℕ → Option ℕ
first [] = None
first (i ∷ is) = Some i

abbrev pub rest : List ℕ → List ℕ
rest [] = []
rest (i ∷ is) = is

-- the n indices below n, the greatest first
abbrev pub down : ℕ → List ℕ
down zero = []
down (suc n) = n ∷ down n
