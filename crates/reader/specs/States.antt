-- What a scanner has yet to take, and what it is for it to go the way of a run.
use Rattle.std.specs.Prelude.{◌≡◌, ℕ, ◌≤◌, List, [], ◌∷◌, length, take, IfOk, Some, None, Ok, Err, Option, Result}
use Rattle.source.specs.Asking.{answer, rest}
use Rattle.source.specs.declared.sources.ByteSource.{Ghosts}
use Rattle.source.specs.Endings.{Ending, at_end}
use Rattle.stream.specs.Events.{ScratchEvent, event, text_length_lem}
use Rattle.stream.specs.Streams.{Ev}
use Rattle.stream.specs.declared.errors.Error.{Error}
use Rattle.reader.specs.Steps.{Run, fetched, step_gives, past}
use Rattle.reader.specs.Tokens.{Item, token, passed_over}
use Rattle.reader.specs.declared.ascii_reader.Scanner.{Scanner}

-- the lookahead, before what the source has left
abbrev pub left_of : Option ℕ → List ℕ → List ℕ
left_of None bs = []
left_of (Some b) bs = b ∷ bs

-- behind the last byte there is the end
abbrev pub ending_of : Option ℕ → Ending → Ending
ending_of None e = at_end
ending_of (Some b) e = e

-- a scanner and what its source has left
pub record Seen : Type 0 where
  pub position : ℕ
  pub peeked : Option ℕ
  pub bytes : List ℕ
  pub ending : Ending

abbrev pub seen : {S : Type 0} → Ghosts S → Scanner S → Seen
seen s r = record { position = r.position; peeked = r.peeked; bytes = s.bytes r.source; ending = s.ending r.source }

-- the bytes not yet taken, and their ending
abbrev pub untaken : Seen → List ℕ
untaken v = left_of v.peeked v.bytes

abbrev pub ends : Seen → Ending
ends v = ending_of v.peeked v.ending

-- what was fetched, with what is then behind it, is what was behind
abbrev pub Fetched : Seen → Result (Option ℕ) Error → Seen → Type 0
Fetched before (Ok b) after =
    (left_of b after.bytes ≡ before.bytes) × (ending_of b after.ending ≡ before.ending) × (after.position ≡ before.position)
    × (fetched before.position (answer before.bytes before.ending) ≡ Ok b)
Fetched before (Err f) after = fetched before.position (answer before.bytes before.ending) ≡ Err f

pub record Took (before : Seen) (b : Option ℕ) (after : Seen) : Type 0 where
  pub leaves : untaken after ≡ rest (untaken before)
  pub counts : after.position ≡ past before.position b
  pub keeps : ends after ≡ ends before

pub record Stepped (before : Seen) (r : Result (Option ℕ) Error) (after : Seen) : Type 0 where
  pub gives : r ≡ step_gives before.position (untaken before) (ends before)
  pub took : IfOk r (λ b. Took before b after)

-- how a scanner stands after a run, beside where it ended
pub record Moved (before after : Seen) : Type 0 where
  pub keeps : ends after ≡ ends before
  pub shorter : length (untaken after) ≤ length (untaken before)

-- A scanner went the way of a run. By cases on the result, which a caller knows after its `?`.
abbrev pub Ran : {A : Type 0} → Run A → Seen → Result A Error → Seen → Type 0
Ran run before (Ok a) after = (run before.position (untaken before) (ends before) ≡ Ok (record { value = a; position = after.position; left = untaken after })) × Moved before after
Ran run before (Err f) after = run before.position (untaken before) (ends before) ≡ Err f

-- the text that a count and the array show
abbrev pub text_at : Result ℕ Error → List ℕ → Result (List ℕ) Error
text_at (Ok n) s = Ok (take n s)
text_at (Err f) s = Err f

-- the event that an answer and the array show
abbrev pub shown : Result ScratchEvent Error → List ℕ → Result Ev Error
shown (Ok ev) s = Ok (event ev s)
shown (Err f) s = Err f

-- the item that they show: no event is one that was passed over
abbrev pub item_at : Result (Option ScratchEvent) Error → List ℕ → Result Item Error
item_at (Ok None) s = Ok passed_over
item_at (Ok (Some ev)) s = Ok (token (event ev s))
item_at (Err f) s = Err f

-- the text of an event is not too long
abbrev pub Fitting : Result (Option ScratchEvent) Error → Type 0
Fitting (Ok None) = Unit {0}
Fitting (Ok (Some ev)) = text_length_lem ev ≤ 1024
Fitting (Err f) = Unit {0}
