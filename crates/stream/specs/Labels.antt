-- A label and what stands behind it, as text.
use Rattle.std.specs.Prelude.{ℕ, List, [], Some, None, Option}
use Rattle.std.specs.Fmt.{option_append}

-- nothing where there is no value
abbrev pub labelled : {X : Type 0} → List ℕ → (X → Option (List ℕ)) → Option X → Option (List ℕ)
labelled label shown None = Some []
labelled label shown (Some x) = option_append (Some label) (shown x)
