-- What a byte source answers when it is asked for a byte.
use Rattle.std.specs.Prelude.{◌≡◌, ℕ, List, [], ◌∷◌, Some, None, Ok, Err, Option, Result}
use Rattle.source.specs.declared.sources.Fault.{Fault}
use Rattle.source.specs.Endings.{Ending}

-- an ending, as an answer
abbrev pub ended : Ending → Result (Option ℕ) Fault
ended (Ok u) = Ok None
ended (Err f) = Err f

-- the answer of a source with bytes left and an ending
abbrev pub answer : List ℕ → Ending → Result (Option ℕ) Fault
answer [] e = ended e
answer (b ∷ bs) e = Ok (Some b)

-- the first of some bytes, if there is one
abbrev pub first : List ℕ → Option ℕ
first [] = None
first (b ∷ bs) = Some b

-- the bytes behind the first
abbrev pub rest : List ℕ → List ℕ
rest [] = []
rest (b ∷ bs) = bs

-- a source that had bs left and then e answers r, and has bs' left and then e'
pub record Asked (bs : List ℕ) (e : Ending) (r : Result (Option ℕ) Fault) (bs' : List ℕ) (e' : Ending) : Type 0 where
  pub gives : r ≡ answer bs e
  pub leaves : bs' ≡ rest bs
  pub keeps : e' ≡ e
