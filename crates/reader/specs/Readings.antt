-- The reading of a list of bytes: its events, and how they end.
use Rattle.std.specs.Prelude.{ℕ, zero, suc, List, length, Ok, Err, Result}
use Rattle.source.specs.Endings.{Ending}
use Rattle.stream.specs.Streams.{Stream, over, first}
use Rattle.stream.specs.declared.errors.Error.{Error}
use Rattle.reader.specs.Steps.{Done}
use Rattle.reader.specs.Tokens.{Item, token, passed_over, the_end, item}

-- an item before what is read later
abbrev pub before : Item → Stream → Stream
before (token ev) later = first ev later
before passed_over later = later
before the_end later = over (Ok tt)

-- a refusal ends the reading
abbrev pub item_then : Result (Done Item) Error → (ℕ → List ℕ → Stream) → Stream
item_then (Ok d) later = before d.value (later d.position d.left)
item_then (Err f) later = over (Err f)

-- at most n items, one after another
unfoldable pub reading_within : ℕ → ℕ → List ℕ → Ending → Stream
reading_within zero p xs e = over (Ok tt)
reading_within (suc n) p xs e = item_then (item p xs e) (λ q ys. reading_within n q ys e)

-- The reading of the bytes not yet taken, from a position on: item after item up to the end or a refusal.
-- Each item takes a byte at least, so there are no more items than bytes, and the end.
unfoldable pub reading : ℕ → List ℕ → Ending → Stream
reading p xs e = reading_within (suc (length xs)) p xs e
