-- A file of lists in hexadecimal, one a line, and what it is answered.
use Rattle.std.specs.Prelude.{ℕ, suc, cond, List, [], ◌∷◌, ◌++◌, Some, None, Ok, Err, codes, decimal, Option, Result, ◌==◌}
use Rattle.std.specs.Option.{option_map}
use Rattle.source.specs.Endings.{at_end}
use Rattle.reader.specs.Readings.{reading}
use Rattle.report.specs.declared.batches.BatchError.{BatchError}
use Rattle.report.specs.declared.batches.BatchError.TheVariants.{Line, Memory}
use Rattle.report.specs.Events.{stream_text}
use Rattle.report.specs.Hex.{from_word}

abbrev pub at_first : ℕ → List (List ℕ) → List (List ℕ)
at_first b [] = (b ∷ []) ∷ []
at_first b (l ∷ ls) = (b ∷ l) ∷ ls

-- the lines of a file: each ends with a line feed, but the last may lack it
abbrev pub lines : List ℕ → List (List ℕ)
lines [] = []
lines (b ∷ bs) = cond (b == 10) ([] ∷ lines bs) (at_first b (lines bs))

-- a line with the events of a list
abbrev pub answer : List ℕ → List ℕ
answer list = stream_text (codes "; ") (reading 0 list at_end) ++ 10 ∷ []

abbrev pub answered : ℕ → Option (List ℕ) → Result (List ℕ) ℕ → Result (List ℕ) ℕ
answered n None later = Err n
answered n (Some text) (Ok later) = Ok (text ++ later)
answered n (Some text) (Err m) = Err m

abbrev pub answer_line_lem : List ℕ → Option (List ℕ)
answer_line_lem line = option_map answer (from_word line)

-- the answers to all lines, of which the first has the number n, or the number of the first line that writes no list
abbrev pub batch : ℕ → List (List ℕ) → Result (List ℕ) ℕ
batch n [] = Ok []
batch n (l ∷ ls) = answered n (answer_line_lem l) (batch (suc n) ls)

-- an error as text
abbrev pub error_text : BatchError → List ℕ
error_text (Line n) = codes "line " ++ (decimal n ++ codes ": expected a list in hexadecimal, two digits a byte, or - for no bytes")
error_text (Memory e) = codes "out of memory"
