-- What a slice source has left: its lent bytes, and then the end.
use Rattle.std.specs.Prelude.{ℕ, List}
use Rattle.source.specs.Endings.{Ending, at_end}
use Rattle.source.specs.declared.slices.SliceSource.{SliceSource}

abbrev pub slice_bytes : SliceSource → List ℕ
slice_bytes s = s.rest.now

abbrev pub slice_ending : SliceSource → Ending
slice_ending s = at_end
