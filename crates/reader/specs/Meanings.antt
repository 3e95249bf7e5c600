-- What a reader means as a source of events, and what it is to read the next one.
use Rattle.std.specs.Prelude.{◌≡◌, ℕ, ◌≤◌, List, Some, None, Ok, Err, Option, Result}
use Rattle.source.specs.declared.sources.ByteSource.{Ghosts}
use Rattle.stream.specs.Events.{ScratchEvent, event, text_length_lem}
use Rattle.stream.specs.Streams.{Stream, over, first}
use Rattle.stream.specs.declared.errors.Error.{Error}
use Rattle.reader.specs.Readings.{reading}
use Rattle.reader.specs.States.{Seen, seen, untaken, ends}
use Rattle.reader.specs.declared.ascii_reader.AsciiReader.{AsciiReader}
use Rattle.reader.specs.declared.states.State.{State}
use Rattle.reader.specs.declared.states.State.TheVariants.{Unfilled, Filled, Refused}

-- the reading of what was not yet taken
abbrev pub reading_of : Seen → Stream
reading_of v = reading v.position (untaken v) (ends v)

-- before its first byte was fetched a reader means the reading of all that its source has, and after its first refusal it repeats that one
abbrev pub in_state : State → Stream → Stream → Stream
in_state Unfilled all later = all
in_state Filled all later = later
in_state (Refused f) all later = over (Err f)

abbrev pub meaning : {S : Type 0} → Ghosts S → AsciiReader S → Stream
meaning s x = let r = x.scanner in in_state x.state (reading r.position (s.bytes r.source) (s.ending r.source)) (reading_of (seen s r))

-- The stream gave the answer and is `after` then; the text of an event stands in the array.
abbrev pub Reads : Stream → Result (Option ScratchEvent) Error → List ℕ → Stream → Type 0
Reads before (Ok (Some ev)) s after = (before ≡ first (event ev s) after) × (text_length_lem ev ≤ 1024)
Reads before (Ok None) s after = (before ≡ over (Ok tt)) × (after ≡ before)
Reads before (Err f) s after = before ≡ over (Err f)

-- the lookahead is filled, which changes nothing of what the reader means, unless there is a refusal
abbrev pub Started : {S : Type 0} → Ghosts S → AsciiReader S → Result (Unit {0}) Error → AsciiReader S → Type 0
Started s before (Ok u) after = (after.state ≡ Filled) × (meaning s after ≡ meaning s before)
Started s before (Err f) after = meaning s before ≡ over (Err f)
