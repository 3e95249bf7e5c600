-- The form of an integer: signed below 2^63, unsigned from there on.
use Rattle.std.specs.Prelude.{◌^◌, Bool, ℤ, pos}
use Rattle.text.specs.Ranges.{lowest_signed, highest_signed, highest_unsigned, between}
use Rattle.text.specs.declared.integer.Form.{Form}
use Rattle.text.specs.declared.integer.Form.TheVariants.{Signed, Unsigned}

-- the integer that a form stands for
abbrev pub form_value : Form → ℤ
form_value (Signed z) = z
form_value (Unsigned n) = pos n

-- a form is its value's own: an unsigned one holds what no signed one can
abbrev pub own_form : Form → Bool
own_form (Signed z) = between lowest_signed highest_signed z
own_form (Unsigned n) = between (pos (2 ^ 63)) highest_unsigned (pos n)
