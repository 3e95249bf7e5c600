-- Events of a property list as data, and streams of them.
use Rattle.std.specs.Prelude.{◌≡◌, ℕ, ◌≤◌, Bool, true, List, [], ◌∷◌, length, ℤ, Option, Result, Float, ⊤}
use Rattle.text.specs.Utf8.{utf8}
use Rattle.stream.specs.declared.kinds.EventKind.{EventKind}
use Rattle.stream.specs.declared.errors.Error.{Error}

-- An event. A start may say how many items or pairs come. Texts are bytes; of floats, not-a-number is one value.
pub data Ev : Type 0 where
  StartArray : Option ℕ → Ev
  StartDictionary : Option ℕ → Ev
  EndCollection : Ev
  Boolean : Bool → Ev
  Data : List ℕ → Ev
  Integer : ℤ → Ev
  Real : Float → Ev
  String : List ℕ → Ev
  Uid : ℕ → Ev

abbrev pub kind : Ev → EventKind
kind (StartArray n) = EventKind.StartArray
kind (StartDictionary n) = EventKind.StartDictionary
kind EndCollection = EventKind.EndCollection
kind (Boolean b) = EventKind.Boolean
kind (Data bs) = EventKind.Data
kind (Integer i) = EventKind.Integer
kind (Real x) = EventKind.Real
kind (String bs) = EventKind.String
kind (Uid u) = EventKind.Uid

-- the events that are left, and how they end: with Ok, or with a refusal
pub record Stream : Type 0 where
  pub events : List Ev
  pub ending : Result ⊤ Error

abbrev pub stream : List Ev → Result ⊤ Error → Stream
stream es e = record { events = es; ending = e }

-- nothing but an ending is left
abbrev pub over : Result ⊤ Error → Stream
over e = stream [] e

-- one event more
abbrev pub first : Ev → Stream → Stream
first ev s = stream (ev ∷ s.events) s.ending

-- a text has at most 1,024 bytes, and that of a String is UTF-8 (RFC 3629)
abbrev pub Fit : Ev → Type 0
Fit (StartArray n) = Unit {0}
Fit (StartDictionary n) = Unit {0}
Fit EndCollection = Unit {0}
Fit (Boolean b) = Unit {0}
Fit (Data bs) = length bs ≤ 1024
Fit (Integer i) = Unit {0}
Fit (Real x) = Unit {0}
Fit (String bs) = (length bs ≤ 1024) × (utf8 bs ≡ true)
Fit (Uid u) = Unit {0}

abbrev pub EachFit : List Ev → Type 0
EachFit [] = Unit {0}
EachFit (ev ∷ es) = Fit ev × EachFit es
