-- A numeral of few digits is small.
use Rattle.std.proofs.Common.{◌≡◌, ℕ, ◌^◌, ◌<◌, ◌≤◌, true, ltb, List, [], ◌∷◌, length, Some, arith, rules}
use Rattle.std.proofs.Math.Nat.{pow-zero, pow-suc}
use Rattle.std.proofs.lemmas.Nat.{mul-add-lt}
use Rattle.std.proofs.lemmas.Bool.{and_parts, ltb-true}
use Rattle.text.specs.Digits.{digit_value, all_digits, place_value, numeral}
use Rattle.text.specs.Numbers.{fitting}

place_value_below : (base : ℕ) (ds : List ℕ) → all_digits base ds ≡ true → place_value base ds < base ^ length ds
place_value_below base [] h = grind (arith, pow-zero base)
place_value_below base (d ∷ ds) h =
    let both = and_parts (ltb (digit_value d) base) (all_digits base ds) h in
    rw pow-suc (mul-add-lt (digit_value d) (base ^ length ds) (place_value base ds) base (ltb-true _ _ both.0) (place_value_below base ds both.1))

pub numeral_below : (base : ℕ) (ds : List ℕ) (n : ℕ) → numeral base ds ≡ Some n → n < base ^ length ds
numeral_below base [] n h = search rules
numeral_below base (d ∷ ds) n h = grind (arith, place_value_below base (d ∷ ds))

pub fitting_short : (base : ℕ) (ds : List ℕ) → base ^ length ds ≤ 2 ^ 64 → fitting (numeral base ds) ≡ numeral base ds
fitting_short base ds h = grind (arith, numeral_below base ds)
