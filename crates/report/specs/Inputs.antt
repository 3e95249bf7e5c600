-- What a program's list gives, with any choice of how it is read.
use Rattle.std.specs.Prelude.{ℕ, Bool, true, false, List}
use Rattle.source.specs.Buffers.{buffer_bytes, buffer_ending}
use Rattle.source.specs.Decks.{deck_bytes, deck_ending, card_texts, cards_end}
use Rattle.source.specs.Slices.{slice_bytes, slice_ending}
use Rattle.source.specs.Endings.{Ending, at_end}
use Rattle.report.specs.declared.inputs.Buffered.{Buffered}
use Rattle.report.specs.declared.inputs.Buffered.TheVariants.{Direct, Once, Twice, Thrice}
use Rattle.report.specs.declared.inputs.FileSource.{FileSource}
use Rattle.report.specs.declared.inputs.FileSource.TheVariants.{Plain, Cards}

-- what a file gives as a deck, or as it is
abbrev pub given_bytes : Bool → List ℕ → List ℕ
given_bytes true file = card_texts file
given_bytes false file = file

abbrev pub given_ending : Bool → List ℕ → Ending
given_ending true file = cards_end file
given_ending false file = at_end

abbrev pub file_bytes : FileSource → List ℕ
file_bytes (Plain s) = slice_bytes s
file_bytes (Cards d) = deck_bytes d

abbrev pub file_ending : FileSource → Ending
file_ending (Plain s) = slice_ending s
file_ending (Cards d) = deck_ending d

-- what lies behind up to three buffers, for what a source of the type gives
abbrev pub behind_bytes : {S : Type 0} → (S → List ℕ) → Buffered S → List ℕ
behind_bytes bytes (Direct s) = bytes s
behind_bytes bytes (Once b) = buffer_bytes bytes b
behind_bytes bytes (Twice b) = buffer_bytes (buffer_bytes bytes) b
behind_bytes bytes (Thrice b) = buffer_bytes (buffer_bytes (buffer_bytes bytes)) b

abbrev pub behind_ending : {S : Type 0} → (S → Ending) → Buffered S → Ending
behind_ending ending (Direct s) = ending s
behind_ending ending (Once b) = buffer_ending ending b
behind_ending ending (Twice b) = buffer_ending (buffer_ending ending) b
behind_ending ending (Thrice b) = buffer_ending (buffer_ending (buffer_ending ending)) b

-- how many buffers lie between
abbrev pub between : {S : Type 0} → Buffered S → ℕ
between (Direct s) = 0
between (Once b) = 1
between (Twice b) = 2
between (Thrice b) = 3
