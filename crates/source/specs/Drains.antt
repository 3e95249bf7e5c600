-- What it is to take all that a source has left.
use Rattle.std.specs.Prelude.{◌≡◌, ℕ, List, [], ◌++◌, Ok, Err, Result, Option, Some, None}
use Rattle.source.specs.declared.drains.DrainError.{DrainError}
use Rattle.source.specs.declared.drains.DrainError.TheVariants.{Fault, Memory}
use Rattle.source.specs.Endings.{Ending, at_end, fault_text}

-- P of the ending that a drain answers, if it came to one
abbrev pub IfEnded : Result (Unit {0}) DrainError → (Ending → Type 0) → Type 0
IfEnded (Ok u) P = P at_end
IfEnded (Err (Fault f)) P = P (Err f)
IfEnded (Err (Memory error)) P = Unit {0}

-- how the error is written: the fault as it is written alone; the library does not say how it writes want of memory
abbrev pub drain_error_text : DrainError → Option (List ℕ)
drain_error_text (Fault f) = Some (fault_text f)
drain_error_text (Memory error) = None

-- a source with bs left and then e was drained behind the bytes out: none is lost, and an ending that is answered is e, with none left
pub record Drained (out bs : List ℕ) (e : Ending) (r : Result (Unit {0}) DrainError) (out' bs' : List ℕ) (e' : Ending) : Type 0 where
  pub moves : out' ++ bs' ≡ out ++ bs
  pub keeps : e' ≡ e
  pub ends : IfEnded r (λ ending. (ending ≡ e) × (bs' ≡ []))
