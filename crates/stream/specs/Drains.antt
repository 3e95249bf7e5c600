-- Going through all events of a stream.
use Rattle.std.specs.Prelude.{◌≡◌, ℕ, ◌-◌, ◌^◌, ◌<◌, ◌≤◌, min, List, length, Ok, Err, Result}
use Rattle.stream.specs.declared.drains.Drained.{Drained}
use Rattle.stream.specs.declared.errors.Error.{Error}
use Rattle.stream.specs.Scratch.{Cleared}
use Rattle.stream.specs.Streams.{Stream, over}

-- how many events there are, up to the highest number of 64 bits, and how they end
abbrev pub drained : Stream → Drained
drained s = record { count = min (length s.events) (2 ^ 64 - 1); ending = s.ending }

-- nothing but the ending is left then, and of a scratch the zeros and what stands past them
pub record Drains (before : Stream) (s : List ℕ) (r : Result Drained Error) (after : Stream) (s' : List ℕ) : Type 0 where
  pub short : length s < 1024 → (r ≡ Err Error.ShortScratch) × (s' ≡ s) × (after ≡ before)
  pub drains : 1024 ≤ length s → (r ≡ Ok (drained before)) × (after ≡ over before.ending) × Cleared 0 s s'
