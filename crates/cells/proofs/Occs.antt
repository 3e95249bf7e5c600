-- How often an index stands in a list.
use Rattle.std.proofs.Common.{◌≡◌, ℕ, ◌+◌, ◌<◌, ◌≢◌, ◌⊎◌, List, [], ◌∷◌, ◌++◌, arith}
use Rattle.std.proofs.lemmas.Bool.Decides.{nat_tests}
use Rattle.cells.specs.Chains.{occ}

pub occ_append : (i : ℕ) (xs ys : List ℕ) → occ i (xs ++ ys) ≡ occ i xs + occ i ys
occ_append i [] ys = omega arith
occ_append i (x ∷ xs) ys = omega (arith, occ_append i xs ys)

pub occ_here : (i : ℕ) (xs : List ℕ) → occ i (i ∷ xs) ≡ 1 + occ i xs
occ_here i xs = grind (arith, nat_tests)

pub occ_other : (i x : ℕ) (xs : List ℕ) → i ≢ x → occ i (x ∷ xs) ≡ occ i xs
occ_other i x xs ne = grind (arith, nat_tests)

pub occ_cases : (i x : ℕ) (xs : List ℕ) → 0 < occ i (x ∷ xs) → (i ≡ x) ⊎ (0 < occ i xs)
occ_cases i x xs p = grind (arith, nat_tests)

pub occ_split : (i : ℕ) (xs ys : List ℕ) → 0 < occ i (xs ++ ys) → (0 < occ i xs) ⊎ (0 < occ i ys)
occ_split i xs ys p = grind (arith, occ_append i xs ys)
