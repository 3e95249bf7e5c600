-- Each integer of the range has one form, and only one.
use Rattle.std.proofs.Common.{◌≡◌, ℕ, ◌^◌, Bool, true, false, leb, ℤ, pos, negsuc, refl, ap, subst, rules}
use mathlib.Core.Bool.{Bool-set}
use Rattle.text.specs.Ranges.{in_range}
use Rattle.text.specs.Forms.{form_value, own_form}
use Rattle.text.specs.Integers.{value, OneFormEach}
use Rattle.text.specs.declared.integer.Form.{Form}
use Rattle.text.specs.declared.integer.Form.TheVariants.{Signed, Unsigned}
use Rattle.text.specs.declared.integer.Integer.{Integer}

form_ranges : (f : Form) → own_form f ≡ true → in_range (form_value f) ≡ true
form_ranges (Signed (pos n)) own = search rules
form_ranges (Signed (negsuc n)) own = search rules
form_ranges (Unsigned n) own = search rules

form_only : (f g : Form) → own_form f ≡ true → own_form g ≡ true → form_value f ≡ form_value g → f ≡ g
form_only (Signed y) (Signed z) p q e = ap Signed e
form_only (Signed y) (Unsigned n) p q e = search rules
form_only (Unsigned m) (Signed z) p q e = search rules
form_only (Unsigned m) (Unsigned n) p q e = search rules

-- the ghost fact is one that has at most one proof
integer_same : (f g : Form) → f ≡ g → (p : own_form f ≡ true) (q : own_form g ≡ true) → ◌≡◌ {A = Integer} (record { form = f; own = p }) (record { form = g; own = q })
integer_same f g e p q =
    subst (λ (h : Form). (r : own_form h ≡ true) → ◌≡◌ {A = Integer} (record { form = f; own = p }) (record { form = h; own = r })) e
    (λ r. ap (λ (s : own_form f ≡ true). record { form = f; own = s }) (Bool-set (own_form f) true p r)) q

form_some : (n : ℕ) → in_range (pos n) ≡ true → (high : Bool) → leb (2 ^ 63) n ≡ high → (i : Integer) × (value i ≡ pos n)
form_some n h true at = (record { form = Unsigned n; own = search rules }, refl)
form_some n h false at = (record { form = Signed (pos n); own = search rules }, refl)

integer_some : (z : ℤ) → in_range z ≡ true → (i : Integer) × (value i ≡ z)
integer_some (pos n) h = form_some n h (leb (2 ^ 63) n) refl
integer_some (negsuc n) h = (record { form = Signed (negsuc n); own = search rules }, refl)

pub one_form_each_lem : OneFormEach
one_form_each_lem = record {
  ranges = λ i. form_ranges i.form i.own;
  some = integer_some;
  only = λ i j e. integer_same i.form j.form (form_only i.form j.form i.own j.own e) i.own j.own;
}
