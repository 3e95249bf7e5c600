-- What one call for the next event does.
use Rattle.std.specs.Prelude.{◌≡◌, ℕ, ◌<◌, ◌≤◌, List, length, Some, None, Ok, Err, Option, Result}
use Rattle.stream.specs.declared.errors.Error.{Error}
use Rattle.stream.specs.Events.{ScratchEvent, event, text_length_lem}
use Rattle.stream.specs.Scratch.{Cleared}
use Rattle.stream.specs.Streams.{Stream, over, first}

-- The stream `before` gave the answer and is `after` then; the scratch was s and is s'. By cases on the answer, which a caller knows.
abbrev pub Gives : Stream → List ℕ → Result (Option ScratchEvent) Error → Stream → List ℕ → Type 0
Gives before s (Ok (Some ev)) after s' = (before ≡ first (event ev s') after) × (text_length_lem ev ≤ 1024) × Cleared (text_length_lem ev) s s'
Gives before s (Ok None) after s' = (before ≡ over (Ok tt)) × (after ≡ before) × Cleared 0 s s'
Gives before s (Err e) after s' = (before ≡ over (Err e)) × (after ≡ before) × Cleared 0 s s'

-- A scratch under 1,024 bytes is refused, and nothing is touched.
pub record Next (before : Stream) (s : List ℕ) (r : Result (Option ScratchEvent) Error) (after : Stream) (s' : List ℕ) : Type 0 where
  pub short : length s < 1024 → (r ≡ Err Error.ShortScratch) × (s' ≡ s) × (after ≡ before)
  pub gives : 1024 ≤ length s → Gives before s r after s'
