-- Digits read one by one from the left come to their place value.
use Rattle.std.proofs.Common.{◌≡◌, ℕ, ◌+◌, ◌*◌, ◌^◌, ◌<◌, ◌≤◌, Bool, true, false, cond, ltb, List, [], ◌∷◌, length, Some, None, Option, sym, refl, ap, ◌∙◌, mul_assoc, add-mul, mul-le-mul_left, zero-mul, mul-one, arith}
use native.Mathlib.Nat.{pow-zero, pow-succ', one-le-pow}
use Rattle.std.proofs.lemmas.Bool.{lt-ltb, le-ltb, ltb-true, ltb-false}
use Rattle.std.specs.Option.{option_map}
use Rattle.text.specs.Digits.{digit_value, digit_of, all_digits, place_value, numeral}
use Rattle.text.specs.Numbers.{fitting}

-- goes on with a value, if there is one
abbrev onward : Option ℕ → (ℕ → Option ℕ) → Option ℕ
onward None next = None
onward (Some n) next = next n

-- one digit more behind the value n
abbrev longer : ℕ → ℕ → ℕ → Option ℕ
longer base n b = fitting (option_map (λ d. n * base + d) (digit_of base b))

-- the digits read behind the value n, as long as it fits
abbrev pub reads : ℕ → ℕ → List ℕ → Option ℕ
reads base n [] = Some n
reads base n (b ∷ bs) = onward (longer base n b) (λ m. reads base m bs)

-- n, and the digits behind it by their places
abbrev after : ℕ → ℕ → List ℕ → ℕ
after base n bs = n * base ^ length bs + place_value base bs

after_more : (base n b : ℕ) (bs : List ℕ) → after base n (b ∷ bs) ≡ after base (n * base + digit_value b) bs
after_more base n b bs =
    omega (arith, ap (λ (p : ℕ). n * p) (pow-succ' base (length bs)), mul_assoc n base (base ^ length bs), add-mul (n * base) (digit_value b) (base ^ length bs))

after_grows : (base n : ℕ) (bs : List ℕ) → 0 < base → n ≤ after base n bs
after_grows base n bs some =
    omega (arith, mul-le-mul_left n (one-le-pow (length bs) base some), mul-one n)

-- what `reads` comes to
abbrev Comes : ℕ → ℕ → List ℕ → Type 0
Comes base n bs = reads base n bs ≡ cond (all_digits base bs) (fitting (Some (after base n bs))) None

-- past the limit no digit brings a value back
reads_past : (base n : ℕ) (bs : List ℕ) → 0 < base → ltb n (2 ^ 64) ≡ false → (all : Bool) → cond all (fitting (Some (after base n bs))) None ≡ None
reads_past base n bs some past true =
    let over : ltb (after base n bs) (2 ^ 64) ≡ false = le-ltb (after base n bs) (2 ^ 64) (omega (arith, after_grows base n bs some, ltb-false n (2 ^ 64) past)) in rw over
reads_past base n bs some past false = refl

reads_more : (base n b : ℕ) (bs : List ℕ) → 0 < base → (d m : Bool) → ltb (digit_value b) base ≡ d → ltb (n * base + digit_value b) (2 ^ 64) ≡ m → (n * base + digit_value b < 2 ^ 64 → Comes base (n * base + digit_value b) bs) → Comes base n (b ∷ bs)
reads_more base n b bs some false m p q h = rw p
reads_more base n b bs some true true p q h = rw (p, q, after_more base n b bs) (h (ltb-true _ _ q))
reads_more base n b bs some true false p q h = rw (p, q, after_more base n b bs) (sym (reads_past base (n * base + digit_value b) bs some q (all_digits base bs)))

pub reads_is : (base n : ℕ) (bs : List ℕ) → 0 < base → n < 2 ^ 64 → Comes base n bs
reads_is base n [] some fits =
    let e : after base n [] ≡ n = omega (arith, ap (λ (p : ℕ). n * p) (pow-zero base), mul-one n) in
    let t : ltb n (2 ^ 64) ≡ true = lt-ltb n (2 ^ 64) fits in rw (e, t)
reads_is base n (b ∷ bs) some fits =
    reads_more base n b bs some (ltb (digit_value b) base) (ltb (n * base + digit_value b) (2 ^ 64)) refl refl
    (λ low. reads_is base (n * base + digit_value b) bs some low)

-- one or more digits, from the start
pub reads_all : (base : ℕ) (bs : List ℕ) → 0 < base → 0 < length bs → reads base 0 bs ≡ fitting (numeral base bs)
reads_all base [] some any = absurd (let never : ⊥ = omega arith in never)
reads_all base (b ∷ bs) some any = reads_is base 0 (b ∷ bs) some (omega arith) ∙ all_same (all_digits base (b ∷ bs))
  where
    e : after base 0 (b ∷ bs) ≡ place_value base (b ∷ bs)
    e = omega (arith, zero-mul (base ^ length (b ∷ bs)))

    all_same : (all : Bool) → cond all (fitting (Some (after base 0 (b ∷ bs)))) None ≡ fitting (cond all (Some (place_value base (b ∷ bs))) None)
    all_same true = ap (λ (v : ℕ). fitting (Some v)) e
    all_same false = refl
