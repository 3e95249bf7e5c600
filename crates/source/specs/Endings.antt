-- How the bytes of a source end, and how an ending is written.
use Rattle.std.specs.Prelude.{ℕ, List, ◌++◌, Ok, Err, Result, codes, decimal}
use Rattle.source.specs.declared.sources.Fault.{Fault}

-- the bytes end because there are no more, or because a fault keeps the source from giving more
abbrev pub Ending : Type 0
Ending = Result (Unit {0}) Fault

abbrev pub at_end : Ending
at_end = Ok tt

-- the fault with a code
abbrev pub faulty : ℕ → Ending
faulty code = Err (record { code = code })

-- `fault` with its code in decimal
abbrev pub fault_text : Fault → List ℕ
fault_text f = codes "fault " ++ decimal f.code

-- `end`, or the fault
abbrev pub ending_text : Ending → List ℕ
ending_text (Ok u) = codes "end"
ending_text (Err f) = fault_text f
