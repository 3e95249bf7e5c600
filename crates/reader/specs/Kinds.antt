-- The refusals of a reading, each with the position where it comes.
use Rattle.std.specs.Prelude.{ℕ}
use Rattle.stream.specs.declared.errors.Error.{Error}
use Rattle.reader.specs.declared.states.ErrorKind.{ErrorKind}
use Rattle.reader.specs.declared.states.ErrorKind.TheVariants.{Io, TooLong, TextTooLong, UnclosedString, IncompleteComment, InvalidUtf8AsciiStream, InvalidOctalString, InvalidUtf16String}

abbrev pub error_at : ErrorKind → ℕ → Error
error_at (Io code) p = Error.Io code p
error_at TooLong p = Error.TooLong p
error_at TextTooLong p = Error.TextTooLong p
error_at UnclosedString p = Error.UnclosedString p
error_at IncompleteComment p = Error.IncompleteComment p
error_at InvalidUtf8AsciiStream p = Error.InvalidUtf8AsciiStream p
error_at InvalidOctalString p = Error.InvalidOctalString p
error_at InvalidUtf16String p = Error.InvalidUtf16String p
