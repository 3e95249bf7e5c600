-- Refusals: the number and the name of each, what it carries, and how it is written.
use Rattle.std.specs.Prelude.{ℕ, List, [], ◌++◌, Some, None, codes, decimal, Option}
use Rattle.stream.specs.Kinds.{kind_name}
use Rattle.stream.specs.declared.kinds.EventKind.{EventKind}
use Rattle.stream.specs.declared.errors.Error.{Error}
use Rattle.stream.specs.declared.errors.Error.TheVariants.{ShortScratch, NoValue, WrongKind, NoTree, Inside, BadKey, Io, TooLong, TextTooLong, UnclosedString, IncompleteComment, InvalidUtf8AsciiStream, InvalidOctalString, InvalidUtf16String, UnexpectedEventType, ExpectedEndOfEventStream, NoNodes, NoTextCells, UnexpectedEndOfEventStream}

abbrev pub number_of : Error → ℕ
number_of ShortScratch = 1
number_of NoValue = 2
number_of WrongKind = 3
number_of NoTree = 4
number_of Inside = 5
number_of BadKey = 6
number_of (Io c p) = 7
number_of (TooLong p) = 8
number_of (TextTooLong p) = 9
number_of (UnclosedString p) = 10
number_of (IncompleteComment p) = 11
number_of (InvalidUtf8AsciiStream p) = 12
number_of (InvalidOctalString p) = 13
number_of (InvalidUtf16String p) = 14
number_of (UnexpectedEventType e f) = 15
number_of (ExpectedEndOfEventStream f) = 16
number_of NoNodes = 17
number_of NoTextCells = 18
number_of UnexpectedEndOfEventStream = 19

abbrev pub name_of : Error → List ℕ
name_of ShortScratch = codes "ShortScratch"
name_of NoValue = codes "NoValue"
name_of WrongKind = codes "WrongKind"
name_of NoTree = codes "NoTree"
name_of Inside = codes "Inside"
name_of BadKey = codes "BadKey"
name_of (Io c p) = codes "Io"
name_of (TooLong p) = codes "TooLong"
name_of (TextTooLong p) = codes "TextTooLong"
name_of (UnclosedString p) = codes "UnclosedString"
name_of (IncompleteComment p) = codes "IncompleteComment"
name_of (InvalidUtf8AsciiStream p) = codes "InvalidUtf8AsciiStream"
name_of (InvalidOctalString p) = codes "InvalidOctalString"
name_of (InvalidUtf16String p) = codes "InvalidUtf16String"
name_of (UnexpectedEventType e f) = codes "UnexpectedEventType"
name_of (ExpectedEndOfEventStream f) = codes "ExpectedEndOfEventStream"
name_of NoNodes = codes "NoNodes"
name_of NoTextCells = codes "NoTextCells"
name_of UnexpectedEndOfEventStream = codes "UnexpectedEndOfEventStream"

-- what the byte source said
abbrev pub code_of : Error → Option ℕ
code_of ShortScratch = None
code_of NoValue = None
code_of WrongKind = None
code_of NoTree = None
code_of Inside = None
code_of BadKey = None
code_of (Io c p) = Some c
code_of (TooLong p) = None
code_of (TextTooLong p) = None
code_of (UnclosedString p) = None
code_of (IncompleteComment p) = None
code_of (InvalidUtf8AsciiStream p) = None
code_of (InvalidOctalString p) = None
code_of (InvalidUtf16String p) = None
code_of (UnexpectedEventType e f) = None
code_of (ExpectedEndOfEventStream f) = None
code_of NoNodes = None
code_of NoTextCells = None
code_of UnexpectedEndOfEventStream = None

abbrev pub expected_of : Error → Option EventKind
expected_of ShortScratch = None
expected_of NoValue = None
expected_of WrongKind = None
expected_of NoTree = None
expected_of Inside = None
expected_of BadKey = None
expected_of (Io c p) = None
expected_of (TooLong p) = None
expected_of (TextTooLong p) = None
expected_of (UnclosedString p) = None
expected_of (IncompleteComment p) = None
expected_of (InvalidUtf8AsciiStream p) = None
expected_of (InvalidOctalString p) = None
expected_of (InvalidUtf16String p) = None
expected_of (UnexpectedEventType e f) = Some e
expected_of (ExpectedEndOfEventStream f) = None
expected_of NoNodes = None
expected_of NoTextCells = None
expected_of UnexpectedEndOfEventStream = None

abbrev pub found_of : Error → Option EventKind
found_of ShortScratch = None
found_of NoValue = None
found_of WrongKind = None
found_of NoTree = None
found_of Inside = None
found_of BadKey = None
found_of (Io c p) = None
found_of (TooLong p) = None
found_of (TextTooLong p) = None
found_of (UnclosedString p) = None
found_of (IncompleteComment p) = None
found_of (InvalidUtf8AsciiStream p) = None
found_of (InvalidOctalString p) = None
found_of (InvalidUtf16String p) = None
found_of (UnexpectedEventType e f) = Some f
found_of (ExpectedEndOfEventStream f) = Some f
found_of NoNodes = None
found_of NoTextCells = None
found_of UnexpectedEndOfEventStream = None

-- how many bytes were taken
abbrev pub position_of : Error → Option ℕ
position_of ShortScratch = None
position_of NoValue = None
position_of WrongKind = None
position_of NoTree = None
position_of Inside = None
position_of BadKey = None
position_of (Io c p) = Some p
position_of (TooLong p) = Some p
position_of (TextTooLong p) = Some p
position_of (UnclosedString p) = Some p
position_of (IncompleteComment p) = Some p
position_of (InvalidUtf8AsciiStream p) = Some p
position_of (InvalidOctalString p) = Some p
position_of (InvalidUtf16String p) = Some p
position_of (UnexpectedEventType e f) = None
position_of (ExpectedEndOfEventStream f) = None
position_of NoNodes = None
position_of NoTextCells = None
position_of UnexpectedEndOfEventStream = None

-- what is carried, after its label, where something is
abbrev pub carried : {X : Type 0} → List ℕ → (X → List ℕ) → Option X → List ℕ
carried label text None = []
carried label text (Some x) = label ++ text x

-- a refusal as text, in ASCII: refused 7 Io code=1 at 71
abbrev pub refusal_text : Error → List ℕ
refusal_text e =
    codes "refused " ++ (decimal (number_of e) ++ (codes " " ++ (name_of e
    ++ (carried (codes " code=") decimal (code_of e) ++ (carried (codes " expected=") kind_name (expected_of e)
    ++ (carried (codes " found=") kind_name (found_of e) ++ carried (codes " at ") decimal (position_of e)))))))
