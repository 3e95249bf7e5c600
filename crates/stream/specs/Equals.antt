-- When kinds, refusals and events are equal: where they are the same.
use Rattle.std.specs.Prelude.{◌≡◌, ℕ, Bool, true, false, ◌&&◌, Some, None, Option, ◌==◌, Float, Decides, refl}
use Rattle.std.specs.Cmp.{IsEquivalence, decided, booleans_Decides, signed_Decides, unsigned_Decides}
use Rattle.std.specs.Option.{option_eq}
use Rattle.std.specs.Ordering.{int_eq}
use Rattle.std.proofs.Common.{sym, ap, subst, true≢false}
use Rattle.std.proofs.Math.Bool.{beq}
use Rattle.std.proofs.lemmas.Bool.{and_parts, and_from}
use lib.Ieee.{nan, inf, fin}
use Rattle.text.specs.Integers.{value}
use Rattle.text.proofs.Forms.{one_form_each_lem}
use Rattle.stream.specs.declared.errors.Error.{Error}
use Rattle.stream.specs.declared.events.Event.{Event}
use Rattle.stream.specs.declared.kinds.EventKind.{EventKind}
use Rattle.stream.specs.declared.uid.Uid.{Uid}

-- kinds
abbrev pub equal_kind : EventKind → EventKind → Bool
equal_kind EventKind.StartArray EventKind.StartArray = true
equal_kind EventKind.StartDictionary EventKind.StartDictionary = true
equal_kind EventKind.EndCollection EventKind.EndCollection = true
equal_kind EventKind.Boolean EventKind.Boolean = true
equal_kind EventKind.Data EventKind.Data = true
equal_kind EventKind.Integer EventKind.Integer = true
equal_kind EventKind.Real EventKind.Real = true
equal_kind EventKind.String EventKind.String = true
equal_kind EventKind.Uid EventKind.Uid = true
equal_kind EventKind.ValueOrStartCollection EventKind.ValueOrStartCollection = true
equal_kind EventKind.DictionaryKeyOrEndCollection EventKind.DictionaryKeyOrEndCollection = true
equal_kind _ _ = false

-- refusals: of one reason, and what they carry is the same
abbrev pub equal_error : Error → Error → Bool
equal_error Error.ShortScratch Error.ShortScratch = true
equal_error Error.NoValue Error.NoValue = true
equal_error Error.WrongKind Error.WrongKind = true
equal_error Error.NoTree Error.NoTree = true
equal_error Error.Inside Error.Inside = true
equal_error Error.BadKey Error.BadKey = true
equal_error (Error.Io c p) (Error.Io d q) = c == d && p == q
equal_error (Error.TooLong p) (Error.TooLong q) = p == q
equal_error (Error.TextTooLong p) (Error.TextTooLong q) = p == q
equal_error (Error.UnclosedString p) (Error.UnclosedString q) = p == q
equal_error (Error.IncompleteComment p) (Error.IncompleteComment q) = p == q
equal_error (Error.InvalidUtf8AsciiStream p) (Error.InvalidUtf8AsciiStream q) = p == q
equal_error (Error.InvalidOctalString p) (Error.InvalidOctalString q) = p == q
equal_error (Error.InvalidUtf16String p) (Error.InvalidUtf16String q) = p == q
equal_error (Error.UnexpectedEventType e f) (Error.UnexpectedEventType g h) = equal_kind e g && equal_kind f h
equal_error (Error.ExpectedEndOfEventStream f) (Error.ExpectedEndOfEventStream g) = equal_kind f g
equal_error Error.NoNodes Error.NoNodes = true
equal_error Error.NoTextCells Error.NoTextCells = true
equal_error Error.UnexpectedEndOfEventStream Error.UnexpectedEndOfEventStream = true
equal_error _ _ = false

-- floats: not-a-number is one value, and 0.0 and -0.0 are two
abbrev pub equal_float : Float → Float → Bool
equal_float nan nan = true
equal_float (inf s) (inf t) = beq s t
equal_float (fin s m x) (fin t n y) = beq s t && (m == n && int_eq x y)
equal_float _ _ = false

-- events
abbrev pub equal_event : Event → Event → Bool
equal_event (Event.StartArray m) (Event.StartArray n) = option_eq ◌==◌ m n
equal_event (Event.StartDictionary m) (Event.StartDictionary n) = option_eq ◌==◌ m n
equal_event Event.EndCollection Event.EndCollection = true
equal_event (Event.Boolean a) (Event.Boolean b) = beq a b
equal_event (Event.Data m) (Event.Data n) = m == n
equal_event (Event.Integer i) (Event.Integer j) = int_eq (value i) (value j)
equal_event (Event.Real x) (Event.Real y) = equal_float x y
equal_event (Event.String m) (Event.String n) = m == n
equal_event (Event.Uid u) (Event.Uid v) = u.value == v.value
equal_event _ _ = false

-- Each of these tests decides whether its arguments are the same.

no : {P : Type 0} → false ≡ true → P
no h = absurd (true≢false (sym h))

-- a test that holds of a thing and itself, and of nothing else
by : {K : Type 0} (E : K → K → Bool) → ((x : K) → E x x ≡ true) → (x y : K) → (E x y ≡ true → x ≡ y) → Decides (E x y) (x ≡ y)
by E itself x y only = (only, λ e. subst (λ z. E x z ≡ true) e (itself x))

kind_itself : (x : EventKind) → equal_kind x x ≡ true
kind_itself EventKind.StartArray = refl
kind_itself EventKind.StartDictionary = refl
kind_itself EventKind.EndCollection = refl
kind_itself EventKind.Boolean = refl
kind_itself EventKind.Data = refl
kind_itself EventKind.Integer = refl
kind_itself EventKind.Real = refl
kind_itself EventKind.String = refl
kind_itself EventKind.Uid = refl
kind_itself EventKind.ValueOrStartCollection = refl
kind_itself EventKind.DictionaryKeyOrEndCollection = refl

kind_only : (x y : EventKind) → equal_kind x y ≡ true → x ≡ y
kind_only EventKind.StartArray EventKind.StartArray h = refl
kind_only EventKind.StartDictionary EventKind.StartDictionary h = refl
kind_only EventKind.EndCollection EventKind.EndCollection h = refl
kind_only EventKind.Boolean EventKind.Boolean h = refl
kind_only EventKind.Data EventKind.Data h = refl
kind_only EventKind.Integer EventKind.Integer h = refl
kind_only EventKind.Real EventKind.Real h = refl
kind_only EventKind.String EventKind.String h = refl
kind_only EventKind.Uid EventKind.Uid h = refl
kind_only EventKind.ValueOrStartCollection EventKind.ValueOrStartCollection h = refl
kind_only EventKind.DictionaryKeyOrEndCollection EventKind.DictionaryKeyOrEndCollection h = refl
kind_only _ _ h = no h

pub kind_decides : (x y : EventKind) → Decides (equal_kind x y) (x ≡ y)
kind_decides x y = by equal_kind kind_itself x y (kind_only x y)

error_itself : (x : Error) → equal_error x x ≡ true
error_itself Error.ShortScratch = refl
error_itself Error.NoValue = refl
error_itself Error.WrongKind = refl
error_itself Error.NoTree = refl
error_itself Error.Inside = refl
error_itself Error.BadKey = refl
error_itself (Error.Io c p) = and_from (c == c) (p == p) ((unsigned_Decides c c).1 refl) ((unsigned_Decides p p).1 refl)
error_itself (Error.TooLong p) = (unsigned_Decides p p).1 refl
error_itself (Error.TextTooLong p) = (unsigned_Decides p p).1 refl
error_itself (Error.UnclosedString p) = (unsigned_Decides p p).1 refl
error_itself (Error.IncompleteComment p) = (unsigned_Decides p p).1 refl
error_itself (Error.InvalidUtf8AsciiStream p) = (unsigned_Decides p p).1 refl
error_itself (Error.InvalidOctalString p) = (unsigned_Decides p p).1 refl
error_itself (Error.InvalidUtf16String p) = (unsigned_Decides p p).1 refl
error_itself (Error.UnexpectedEventType e f) = and_from (equal_kind e e) (equal_kind f f) (kind_itself e) (kind_itself f)
error_itself (Error.ExpectedEndOfEventStream f) = kind_itself f
error_itself Error.NoNodes = refl
error_itself Error.NoTextCells = refl
error_itself Error.UnexpectedEndOfEventStream = refl

error_only : (x y : Error) → equal_error x y ≡ true → x ≡ y
error_only Error.ShortScratch Error.ShortScratch h = refl
error_only Error.NoValue Error.NoValue h = refl
error_only Error.WrongKind Error.WrongKind h = refl
error_only Error.NoTree Error.NoTree h = refl
error_only Error.Inside Error.Inside h = refl
error_only Error.BadKey Error.BadKey h = refl
error_only (Error.Io c p) (Error.Io d q) h =
    let both = and_parts (c == d) (p == q) h in
    λ i. Error.Io ((unsigned_Decides c d).0 both.0 i) ((unsigned_Decides p q).0 both.1 i)
error_only (Error.TooLong p) (Error.TooLong q) h = ap Error.TooLong ((unsigned_Decides p q).0 h)
error_only (Error.TextTooLong p) (Error.TextTooLong q) h = ap Error.TextTooLong ((unsigned_Decides p q).0 h)
error_only (Error.UnclosedString p) (Error.UnclosedString q) h = ap Error.UnclosedString ((unsigned_Decides p q).0 h)
error_only (Error.IncompleteComment p) (Error.IncompleteComment q) h = ap Error.IncompleteComment ((unsigned_Decides p q).0 h)
error_only (Error.InvalidUtf8AsciiStream p) (Error.InvalidUtf8AsciiStream q) h = ap Error.InvalidUtf8AsciiStream ((unsigned_Decides p q).0 h)
error_only (Error.InvalidOctalString p) (Error.InvalidOctalString q) h = ap Error.InvalidOctalString ((unsigned_Decides p q).0 h)
error_only (Error.InvalidUtf16String p) (Error.InvalidUtf16String q) h = ap Error.InvalidUtf16String ((unsigned_Decides p q).0 h)
error_only (Error.UnexpectedEventType e f) (Error.UnexpectedEventType g k) h =
    let both = and_parts (equal_kind e g) (equal_kind f k) h in
    λ i. Error.UnexpectedEventType (kind_only e g both.0 i) (kind_only f k both.1 i)
error_only (Error.ExpectedEndOfEventStream f) (Error.ExpectedEndOfEventStream g) h = ap Error.ExpectedEndOfEventStream (kind_only f g h)
error_only Error.NoNodes Error.NoNodes h = refl
error_only Error.NoTextCells Error.NoTextCells h = refl
error_only Error.UnexpectedEndOfEventStream Error.UnexpectedEndOfEventStream h = refl
error_only _ _ h = no h

pub error_decides : (x y : Error) → Decides (equal_error x y) (x ≡ y)
error_decides x y = by equal_error error_itself x y (error_only x y)

pub error_laws : IsEquivalence equal_error
error_laws = decided equal_error error_decides

float_itself : (x : Float) → equal_float x x ≡ true
float_itself nan = refl
float_itself (inf s) = (booleans_Decides s s).1 refl
float_itself (fin s m x) = and_from (beq s s) (m == m && int_eq x x) ((booleans_Decides s s).1 refl) (and_from (m == m) (int_eq x x) ((unsigned_Decides m m).1 refl) ((signed_Decides x x).1 refl))

float_only : (x y : Float) → equal_float x y ≡ true → x ≡ y
float_only nan nan h = refl
float_only (inf s) (inf t) h = ap inf ((booleans_Decides s t).0 h)
float_only (fin s m x) (fin t n y) h =
    let first = and_parts (beq s t) (m == n && int_eq x y) h in
    let rest = and_parts (m == n) (int_eq x y) first.1 in
    λ i. fin ((booleans_Decides s t).0 first.0 i) ((unsigned_Decides m n).0 rest.0 i) ((signed_Decides x y).0 rest.1 i)
float_only _ _ h = no h

count_itself : (m : Option ℕ) → option_eq ◌==◌ m m ≡ true
count_itself None = refl
count_itself (Some m) = (unsigned_Decides m m).1 refl

count_only : (m n : Option ℕ) → option_eq ◌==◌ m n ≡ true → m ≡ n
count_only None None h = refl
count_only (Some m) (Some n) h = ap Some ((unsigned_Decides m n).0 h)
count_only _ _ h = no h

uid_only : (u v : Uid) → u.value == v.value ≡ true → u ≡ v
uid_only u v h = ap (λ n. record { value = n }) ((unsigned_Decides u.value v.value).0 h)

event_itself : (x : Event) → equal_event x x ≡ true
event_itself (Event.StartArray m) = count_itself m
event_itself (Event.StartDictionary m) = count_itself m
event_itself Event.EndCollection = refl
event_itself (Event.Boolean b) = (booleans_Decides b b).1 refl
event_itself (Event.Data n) = (unsigned_Decides n n).1 refl
event_itself (Event.Integer i) = (signed_Decides (value i) (value i)).1 refl
event_itself (Event.Real x) = float_itself x
event_itself (Event.String n) = (unsigned_Decides n n).1 refl
event_itself (Event.Uid u) = (unsigned_Decides u.value u.value).1 refl

event_only : (x y : Event) → equal_event x y ≡ true → x ≡ y
event_only (Event.StartArray m) (Event.StartArray n) h = ap Event.StartArray (count_only m n h)
event_only (Event.StartDictionary m) (Event.StartDictionary n) h = ap Event.StartDictionary (count_only m n h)
event_only Event.EndCollection Event.EndCollection h = refl
event_only (Event.Boolean a) (Event.Boolean b) h = ap Event.Boolean ((booleans_Decides a b).0 h)
event_only (Event.Data m) (Event.Data n) h = ap Event.Data ((unsigned_Decides m n).0 h)
event_only (Event.Integer i) (Event.Integer j) h = ap Event.Integer (one_form_each_lem.only i j ((signed_Decides (value i) (value j)).0 h))
event_only (Event.Real x) (Event.Real y) h = ap Event.Real (float_only x y h)
event_only (Event.String m) (Event.String n) h = ap Event.String ((unsigned_Decides m n).0 h)
event_only (Event.Uid u) (Event.Uid v) h = ap Event.Uid (uid_only u v h)
event_only _ _ h = no h

pub event_decides : (x y : Event) → Decides (equal_event x y) (x ≡ y)
event_decides x y = by equal_event event_itself x y (event_only x y)

pub event_laws : IsEquivalence equal_event
event_laws = decided equal_event event_decides
