-- Number syntax and the relation that says how numbers are written are one.
use Rattle.std.proofs.Common.{◌≡◌, ℕ, suc, ◌^◌, ◌<◌, Bool, true, false, eqb, ltb, List, [], ◌∷◌, ◌++◌, length, drop, ℤ, pos, negsuc, Some, None, codes, Option, sym, refl, ap, ◌∙◌, arith, rules}
use Rattle.std.proofs.lemmas.Bool.{and_parts, eqb-true, cond-true, cond-false}
use Rattle.std.proofs.lemmas.Bool.Decides.{nat_tests}
use Rattle.std.proofs.lemmas.Str.Parse.{IsNumeralModel, numerals_by_weight}
use Rattle.std.proofs.lemmas.Fmt.{digits_decimal, digits_value-decimal, decimal_nonempty}
use Rattle.std.specs.Option.{option_map}
use Rattle.std.specs.Fmt as shown
use Rattle.std.specs.Fmt.{signed_decimal}
use Rattle.text.specs.Integers.{value}
use Rattle.text.specs.Digits.{digit_value, all_digits, place_value, numeral}
use Rattle.text.specs.Numbers.{begins, minus, decimal, written, ranged, number}
use Rattle.text.specs.Notation.{Digits, Writes, plain, plus, negative, hexadecimal, Notation}
use Rattle.text.specs.Ranges.{in_range}
use Rattle.text.proofs.Forms.{one_form_each_lem}

-- what a prefix is, is in front of the rest
begins_split : (text bs : List ℕ) → begins text bs ≡ true → bs ≡ text ++ drop (length text) bs
begins_split [] bs h = refl
begins_split (t ∷ text) [] h = search rules
begins_split (t ∷ text) (b ∷ bs) h =
    let both = and_parts (eqb t b) (begins text bs) h in
    ap (λ (x : ℕ). x ∷ bs) (sym (eqb-true t b both.0)) ∙ ap (λ (rest : List ℕ). t ∷ rest) (begins_split text bs both.1)

-- a numeral is its digits' place value
numeral_is : (base : ℕ) (ds : List ℕ) (n : ℕ) → numeral base ds ≡ Some n → Digits base ds × (n ≡ place_value base ds)
numeral_is base [] n h = search rules
numeral_is base (d ∷ ds) n h = grind arith

numeral_of : (base : ℕ) (ds : List ℕ) → Digits base ds → numeral base ds ≡ Some (place_value base ds)
numeral_of base [] h = absurd (let never : ⊥ = omega (arith, h.some) in never)
numeral_of base (d ∷ ds) h = cond-true (all_digits base (d ∷ ds)) _ _ h.each

-- ---- from a number to how it is written

mapped_is : (f : ℕ → ℤ) (o : Option ℕ) (z : ℤ) → option_map f o ≡ Some z → (n : ℕ) × (o ≡ Some n) × (z ≡ f n)
mapped_is f None z h = search rules
mapped_is f (Some n) z h = (n, refl, (cc))

ranged_is : (o : Option ℤ) (z : ℤ) → ranged o ≡ Some z → (o ≡ Some z) × (in_range z ≡ true)
ranged_is None z h = search rules
ranged_is (Some y) z h = grind arith

decimal_writes : (bs : List ℕ) (z : ℤ) (m p : Bool) → begins (codes "-") bs ≡ m → begins (codes "+") bs ≡ p → decimal bs ≡ Some z → Writes bs z
decimal_writes bs z true p em ep h =
    let n = mapped_is minus (numeral 10 (drop 1 bs)) z (rw em at h) in
    let ds = numeral_is 10 (drop 1 bs) n.0 n.1 in
    negative (drop 1 bs) (begins_split (codes "-") bs em) ds.0 (n.2 ∙ ap minus ds.1)
decimal_writes bs z false true em ep h =
    let n = mapped_is pos (numeral 10 (drop 1 bs)) z (rw (em, ep) at h) in
    let ds = numeral_is 10 (drop 1 bs) n.0 n.1 in
    plus (drop 1 bs) (begins_split (codes "+") bs ep) ds.0 (n.2 ∙ ap pos ds.1)
decimal_writes bs z false false em ep h =
    let n = mapped_is pos (numeral 10 bs) z (rw (em, ep) at h) in
    let ds = numeral_is 10 bs n.0 n.1 in
    plain ds.0 (n.2 ∙ ap pos ds.1)

written_writes : (bs : List ℕ) (z : ℤ) (x : Bool) → begins (codes "0x") bs ≡ x → written bs ≡ Some z → Writes bs z
written_writes bs z true ex h =
    let n = mapped_is pos (numeral 16 (drop 2 bs)) z (rw ex at h) in
    let ds = numeral_is 16 (drop 2 bs) n.0 n.1 in
    hexadecimal (drop 2 bs) (begins_split (codes "0x") bs ex) ds.0 (n.2 ∙ ap pos ds.1)
written_writes bs z false ex h = decimal_writes bs z (begins (codes "-") bs) (begins (codes "+") bs) refl refl (rw ex at h)

-- ---- and back

-- decimal digits begin with no sign, and not with `0x`
no_sign : (t : ℕ) (bs : List ℕ) → ltb (digit_value t) 10 ≡ false → all_digits 10 bs ≡ true → begins (t ∷ []) bs ≡ false
no_sign t [] ht h = refl
no_sign t (b ∷ bs) ht h = grind arith

no_base : (bs : List ℕ) → all_digits 10 bs ≡ true → begins (codes "0x") bs ≡ false
no_base [] h = refl
no_base (b ∷ []) h = grind arith
no_base (b ∷ x ∷ bs) h = grind arith

writes_written : (bs : List ℕ) (z : ℤ) → Writes bs z → written bs ≡ Some z
writes_written bs z (plain h e) =
    cond-false (begins (codes "0x") bs) _ _ (no_base bs h.each)
    ∙ cond-false (begins (codes "-") bs) _ _ (no_sign 45 bs refl h.each)
    ∙ cond-false (begins (codes "+") bs) _ _ (no_sign 43 bs refl h.each)
    ∙ ap (option_map pos) (numeral_of 10 bs h) ∙ ap Some (sym e)
writes_written bs z (plus ds p h e) = ap written p ∙ ap (option_map pos) (numeral_of 10 ds h) ∙ ap Some (sym e)
writes_written bs z (negative ds p h e) = ap written p ∙ ap (option_map minus) (numeral_of 10 ds h) ∙ ap Some (sym e)
writes_written bs z (hexadecimal ds p h e) = ap written p ∙ ap (option_map pos) (numeral_of 16 ds h) ∙ ap Some (sym e)

-- ---- what is displayed

own : IsNumeralModel (λ ds. all_digits 10 ds ≡ true) (place_value 10)
own = numerals_by_weight (λ ds. all_digits 10 ds ≡ true) (search rules) (place_value 10) (search rules)

decimal_digits : (n : ℕ) → n < 2 ^ 64 → Digits 10 (shown.decimal n)
decimal_digits n h = record { some = decimal_nonempty n h; each = digits_decimal own n h }

displayed : (z : ℤ) → in_range z ≡ true → Writes (signed_decimal z) z
displayed (pos n) h =
    let low : n < 2 ^ 64 = grind (arith, nat_tests) in
    plain (decimal_digits n low) (ap pos (sym (digits_value-decimal own n low)))
displayed (negsuc n) h =
    let low : suc n < 2 ^ 64 = grind (arith, nat_tests) in
    negative (shown.decimal (suc n)) refl (decimal_digits (suc n) low) (ap minus (sym (digits_value-decimal own (suc n) low)))

reads_number : (bs : List ℕ) (z : ℤ) → Writes bs z → in_range z ≡ true → number bs ≡ Some z
unfolding number
reads_number bs z w h = ap ranged (writes_written bs z w) ∙ cond-true (in_range z) _ _ h

pub notation : Notation
unfolding number
notation = record {
  writes = λ bs z h. let w = ranged_is (written bs) z h in (written_writes bs z (begins (codes "0x") bs) refl w.0, w.1);
  reads = reads_number;
  back = λ i. let low = one_form_each_lem.ranges i in reads_number (signed_decimal (value i)) (value i) (displayed (value i) low) low;
}
