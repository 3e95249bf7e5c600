-- What a source with a given fault behind its bytes means.
use Rattle.std.specs.Prelude.{ℕ, List, Err}
use Rattle.source.specs.Endings.{Ending}
use Rattle.source.specs.declared.faults.Faulted.{Faulted}

abbrev pub faulted_bytes : {S : Type 0} → (S → List ℕ) → Faulted S → List ℕ
faulted_bytes bytes f = bytes f.below

abbrev pub faulted_ending : {S : Type 0} → Faulted S → Ending
faulted_ending f = Err f.fault
