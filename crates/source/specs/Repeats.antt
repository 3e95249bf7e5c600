-- What a source that repeats a byte has left.
use Rattle.std.specs.Prelude.{ℕ, List, replicate}
use Rattle.source.specs.Endings.{Ending, at_end}
use Rattle.source.specs.declared.repeats.Repeated.{Repeated}

-- one byte so many times. It is shut, so that a large number of them is not written out
unfoldable pub copies : ℕ → ℕ → List ℕ
copies count byte = replicate count byte

abbrev pub repeated_bytes : Repeated → List ℕ
repeated_bytes r = copies r.left r.byte

abbrev pub repeated_ending : Repeated → Ending
repeated_ending r = at_end
