-- What an Integer means.
use Rattle.std.specs.Prelude.{◌≡◌, true, ℤ}
use Rattle.text.specs.Ranges.{in_range}
use Rattle.text.specs.Forms.{form_value}
use Rattle.text.specs.declared.integer.Integer.{Integer}

-- the integer that it stands for
abbrev pub value : Integer → ℤ
value i = form_value i.form

-- Integers are the integers from −2^63 to 2^64 − 1: each of these is the value of one Integer, and of only one
pub record OneFormEach : Type 0 where
  pub ranges : (i : Integer) → in_range (value i) ≡ true
  pub some : (z : ℤ) → in_range z ≡ true → (i : Integer) × (value i ≡ z)
  pub only : (i j : Integer) → value i ≡ value j → i ≡ j
