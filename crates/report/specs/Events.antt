-- What is printed of an event, and of a stream of events.
use Rattle.std.specs.Prelude.{ℕ, Bool, true, false, List, [], ◌∷◌, ◌++◌, Ok, Err, Result, ⊤, codes, decimal, to_bits}
use Rattle.std.specs.Float.{binary64}
use Rattle.std.specs.Fmt.{signed_decimal}
use Rattle.stream.specs.Errors.{carried, refusal_text}
use Rattle.stream.specs.Streams.{Ev, Stream}
use Rattle.stream.specs.declared.errors.Error.{Error}
use Rattle.report.specs.Hex.{hex, eight_bytes}

abbrev pub bool_text : Bool → List ℕ
bool_text true = codes "true"
bool_text false = codes "false"

-- An event by its name and what it carries: counts and numbers in decimal, texts in hexadecimal, a Real by its 64 bits in hexadecimal
-- (every not-a-number as 7ff8000000000000).
abbrev pub event_text : Ev → List ℕ
event_text (Ev.StartArray n) = codes "StartArray" ++ carried (codes " ") decimal n
event_text (Ev.StartDictionary n) = codes "StartDictionary" ++ carried (codes " ") decimal n
event_text Ev.EndCollection = codes "EndCollection"
event_text (Ev.Boolean b) = codes "Boolean " ++ bool_text b
event_text (Ev.Data bs) = codes "Data " ++ hex bs
event_text (Ev.Integer z) = codes "Integer " ++ signed_decimal z
event_text (Ev.Real x) = codes "Real " ++ hex (eight_bytes (to_bits binary64 x))
event_text (Ev.String bs) = codes "String " ++ hex bs
event_text (Ev.Uid u) = codes "Uid " ++ decimal u

abbrev pub ending_text : Result ⊤ Error → List ℕ
ending_text (Ok _) = codes "end"
ending_text (Err e) = refusal_text e

-- events and an ending, each with a text behind it: a line feed, or a separator
abbrev pub events_text : List ℕ → List Ev → Result ⊤ Error → List ℕ
events_text between [] e = ending_text e
events_text between (ev ∷ evs) e = event_text ev ++ (between ++ events_text between evs e)

abbrev pub stream_text : List ℕ → Stream → List ℕ
stream_text between s = events_text between s.events s.ending
