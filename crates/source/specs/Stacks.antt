-- What is found in a stack of sources that was made, drained and let go.
use Rattle.std.specs.Prelude.{◌≡◌, ℕ, List, ◌++◌, Result}
use Rattle.source.specs.declared.drains.DrainError.{DrainError}
use Rattle.source.specs.Drains.{IfEnded}
use Rattle.source.specs.Endings.{Ending}

-- out' is out and then a front of bs; with an ending answered, all of bs, and the ending is e
pub record Emptied (out bs : List ℕ) (e : Ending) (r : Result (Unit {0}) DrainError) (out' : List ℕ) : Type 0 where
  pub front : (left : List ℕ) × (out' ++ left ≡ out ++ bs)
  pub whole : IfEnded r (λ ending. (ending ≡ e) × (out' ≡ out ++ bs))
