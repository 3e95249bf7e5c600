-- What is printed of a byte source.
use Rattle.std.specs.Prelude.{ℕ, List, [], ◌∷◌, ◌++◌}
use Rattle.source.specs.Endings.{Ending, ending_text}
use Rattle.report.specs.Hex.{hex}

-- a line with the bytes in hexadecimal, and a line with the ending
abbrev pub bytes_report_lem : List ℕ → Ending → List ℕ
bytes_report_lem bs e = hex bs ++ (10 ∷ (ending_text e ++ (10 ∷ [])))
