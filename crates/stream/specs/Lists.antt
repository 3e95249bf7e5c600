-- What a source over a list of events means.
use Rattle.std.specs.Prelude.{◌≡◌, ℕ, ◌+◌, min, cond, List, [], ◌∷◌, map, length, take, pos, Some, None, Err, Option, Result, nat_le, ⊤}
use Rattle.text.specs.Utf8.{utf8}
use Rattle.stream.specs.declared.errors.Error.{Error}
use Rattle.stream.specs.declared.lists.EventList.{EventList}
use Rattle.stream.specs.declared.lists.ListedEvent.{ListedEvent}
use Rattle.stream.specs.declared.lists.ListedEvent.TheVariants.{StartArray, StartDictionary, EndCollection, Boolean, Data, Signed, Unsigned, Real, String, Uid}
use Rattle.stream.specs.Events.{ScratchEvent, event, text_length_lem}
use Rattle.stream.specs.Streams.{Ev, Stream, over, first}

-- the event that stands in the list
abbrev pub listed : ListedEvent → Ev
listed (StartArray n) = Ev.StartArray n
listed (StartDictionary n) = Ev.StartDictionary n
listed EndCollection = Ev.EndCollection
listed (Boolean b) = Ev.Boolean b
listed (Data t) = Ev.Data t.now
listed (Signed i) = Ev.Integer i
listed (Unsigned n) = Ev.Integer (pos n)
listed (Real x) = Ev.Real x
listed (String t) = Ev.String t.now
listed (Uid u) = Ev.Uid u.value

-- its text, if it has one
abbrev pub text_of : Ev → List ℕ
text_of (Ev.StartArray n) = []
text_of (Ev.StartDictionary n) = []
text_of Ev.EndCollection = []
text_of (Ev.Boolean b) = []
text_of (Ev.Data bs) = bs
text_of (Ev.Integer i) = []
text_of (Ev.Real x) = []
text_of (Ev.String bs) = bs
text_of (Ev.Uid u) = []

-- the code's event, beside any scratch that begins with the text
pub record StandsFor (e : ScratchEvent) (ev : Ev) : Type 0 where
  pub extent : text_length_lem e ≡ length (text_of ev)
  pub shows : (s : List ℕ) → take (length (text_of ev)) s ≡ text_of ev → event e s ≡ ev

abbrev pub unless_long : ℕ → List ℕ → Option Error → Option Error
unless_long n bs otherwise = cond (nat_le (length bs) 1024) otherwise (Some (Error.TextTooLong n))

-- why an event with n others before it is not given: a text over 1,024 bytes, else a String that is not UTF-8
abbrev pub unfit : ℕ → Ev → Option Error
unfit n (Ev.StartArray c) = None
unfit n (Ev.StartDictionary c) = None
unfit n Ev.EndCollection = None
unfit n (Ev.Boolean b) = None
unfit n (Ev.Data bs) = unless_long n bs None
unfit n (Ev.Integer i) = None
unfit n (Ev.Real x) = None
unfit n (Ev.String bs) = unless_long n bs (cond (utf8 bs) None (Some (Error.InvalidUtf8AsciiStream n)))
unfit n (Ev.Uid u) = None

abbrev pub unless : Option Error → Stream → Stream
unless None rest = rest
unless (Some e) rest = over (Err e)

-- one event more was given; a count of 32 bits stays at its highest number
abbrev pub one_more : ℕ → ℕ
one_more n = min (n + 1) 4294967295

-- the events up to the first that is unfit, whose refusal is then the ending; n were given before
abbrev pub fit_part : ℕ → List Ev → Result ⊤ Error → Stream
fit_part n [] end = over end
fit_part n (ev ∷ evs) end = unless (unfit n ev) (first ev (fit_part (one_more n) evs end))

abbrev pub meaning : EventList → Stream
meaning x = fit_part x.given (map listed x.events.now) x.ending
