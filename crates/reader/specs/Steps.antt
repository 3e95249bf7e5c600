-- How the reader goes over bytes: step by step, with a position and one byte of lookahead.
use Rattle.std.specs.Prelude.{ℕ, ◌+◌, Bool, cond, List, [], ◌∷◌, Some, None, Ok, Err, Option, Result, nat_le}
use Rattle.source.specs.Asking.{answer, ended, first, rest}
use Rattle.source.specs.Endings.{Ending}
use Rattle.source.specs.declared.sources.Fault.{Fault}
use Rattle.stream.specs.declared.errors.Error.{Error}
use Rattle.stream.specs.declared.errors.Error.TheVariants.{Io, TooLong}

-- What a run over bytes made, the position where it ended, and the bytes that it left.
pub record Done (A : Type 0) : Type 0 where
  pub value : A
  pub position : ℕ
  pub left : List ℕ

-- A run starts at a position, with the bytes not yet taken, of which the first is the lookahead, and with their ending.
abbrev pub Run : Type 0 → Type 0
Run A = ℕ → List ℕ → Ending → Result (Done A) Error

-- makes a value and takes nothing
abbrev pub pure : {A : Type 0} → A → Run A
pure a p xs e = Ok (record { value = a; position = p; left = xs })

-- refuses at the position
abbrev pub refuse : {A : Type 0} → (ℕ → Error) → Run A
refuse error p xs e = Err (error p)

-- on from where a run ended, with what it made
abbrev pub onward : {A B : Type 0} → Result (Done A) Error → (A → Run B) → Ending → Result (Done B) Error
onward (Ok d) next e = next d.value d.position d.left e
onward (Err f) next e = Err f

-- one run, and then another
abbrev pub ◌>>=◌ : {A B : Type 0} → Run A → (A → Run B) → Run B
◌>>=◌ run next p xs e = onward (run p xs e) next e

infixl 25 ◌>>=◌
-- one of two runs, by a test
abbrev pub whether : {A : Type 0} → Bool → Run A → Run A → Run A
whether test run other p xs e = cond test (run p xs e) (other p xs e)

-- the value, if there is one, and else a refusal
abbrev pub or_refuse : {A : Type 0} → (ℕ → Error) → Option A → Run A
or_refuse error (Some a) = pure a
or_refuse error None = refuse error

-- what a fetch at p meets: a byte, the end, or the source's fault
abbrev pub fetched : ℕ → Result (Option ℕ) Fault → Result (Option ℕ) Error
fetched p (Ok b) = Ok b
fetched p (Err fault) = Err (Io fault.code p)

-- the last position
abbrev pub limit : ℕ
limit = 16777215

-- A step at p makes the lookahead x the current byte, once it has fetched a new lookahead, and may not pass the limit.
abbrev pub current : ℕ → ℕ → Result (Option ℕ) Fault → Result (Option ℕ) Error
current p x (Ok b) = cond (nat_le limit p) (Err (TooLong p)) (Ok (Some x))
current p x (Err fault) = Err (Io fault.code p)

-- the current byte that a step at p makes of the bytes not yet taken; with none, the end
abbrev pub step_gives : ℕ → List ℕ → Ending → Result (Option ℕ) Error
step_gives p [] e = fetched p (ended e)
step_gives p (x ∷ xs) e = current p x (answer xs e)

-- the position after a step at p
abbrev pub past : ℕ → Option ℕ → ℕ
past p None = p
past p (Some x) = p + 1

abbrev pub stepped : Result (Option ℕ) Error → Run (Option ℕ)
stepped (Ok b) p xs e = pure b (past p b) (rest xs) e
stepped (Err f) p xs e = Err f

-- a step
abbrev pub step : Run (Option ℕ)
step p xs e = stepped (step_gives p xs e) p xs e

-- the lookahead
abbrev pub peek : Run (Option ℕ)
peek p xs e = pure (first xs) p xs e

-- on after a step, unless it was refused
abbrev pub then : {A : Type 0} → Result (Option ℕ) Error → Result (Done A) Error → Result (Done A) Error
then (Ok b) next = next
then (Err f) next = Err f
