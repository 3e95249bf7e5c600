-- The rule of the NEXTSTEP table: every entry is a scalar value. One test over the whole table, and the rule at each entry.
use Rattle.std.proofs.Common.{◌≡◌, ℕ, zero, suc, ◌<◌, true, List, [], ◌∷◌, length, get_or, refl, le_of_suc-le-suc, not-suc-le-zero}
use Rattle.std.proofs.lemmas.Bool.{and_parts}
use Rattle.text.specs.Nextstep.{nextstep_table}
use Rattle.text.specs.Utf8.{scalar, scalars}

scalar_at : (cs : List ℕ) (k : ℕ) → scalars cs ≡ true → k < length cs → scalar (get_or cs k 0) ≡ true
scalar_at [] k t h = absurd (not-suc-le-zero h)
scalar_at (c ∷ cs) zero t h = (and_parts (scalar c) (scalars cs) t).0
scalar_at (c ∷ cs) (suc k) t h = scalar_at cs k (and_parts (scalar c) (scalars cs) t).1 (le_of_suc-le-suc h)

all_scalars : scalars nextstep_table ≡ true
all_scalars = refl

pub table_scalar : (k : ℕ) → k < 128 → scalar (get_or nextstep_table k 0) ≡ true
table_scalar k h = scalar_at nextstep_table k all_scalars h
