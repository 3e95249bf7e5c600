-- What the events of the code are: their kinds, and with the scratch beside them the events that they stand for.
use Rattle.std.specs.Prelude.{ℕ, List, [], take}
use Rattle.text.specs.Integers.{value}
use Rattle.stream.specs.Streams.{Ev, kind}
use Rattle.stream.specs.declared.kinds.EventKind.{EventKind}
use Rattle.stream.specs.declared.events.Event.{Event}
use Rattle.stream.specs.declared.events.Event.TheVariants.{StartArray, StartDictionary, EndCollection, Boolean, Data, Integer, Real, String, Uid}

-- the same by another name, beside events as data (`Ev`)
abbrev pub ScratchEvent : Type 0
ScratchEvent = Event

-- how many bytes of the scratch are the event's text
abbrev pub text_length_lem : Event → ℕ
text_length_lem (StartArray n) = 0
text_length_lem (StartDictionary n) = 0
text_length_lem EndCollection = 0
text_length_lem (Boolean b) = 0
text_length_lem (Data n) = n
text_length_lem (Integer i) = 0
text_length_lem (Real x) = 0
text_length_lem (String n) = n
text_length_lem (Uid u) = 0

-- the event that the code's event and the scratch show
abbrev pub event : Event → List ℕ → Ev
event (StartArray n) s = Ev.StartArray n
event (StartDictionary n) s = Ev.StartDictionary n
event EndCollection s = Ev.EndCollection
event (Boolean b) s = Ev.Boolean b
event (Data n) s = Ev.Data (take n s)
event (Integer i) s = Ev.Integer (value i)
event (Real x) s = Ev.Real x
event (String n) s = Ev.String (take n s)
event (Uid u) s = Ev.Uid u.value

-- its kind, whatever stands in the scratch
abbrev pub kind_of : Event → EventKind
kind_of e = kind (event e [])
