-- What a buffer means: the bytes it holds, then the bytes below, with the ending below.
use Rattle.std.specs.Prelude.{◌≡◌, ℕ, List, [], ◌∷◌, ◌++◌, take, drop, slice_range, Ok, Err, Result}
use Rattle.source.specs.declared.sources.Fault.{Fault}
use Rattle.source.specs.declared.buffers.Buffer.{Buffer}
use Rattle.source.specs.Asking.{rest}
use Rattle.source.specs.Endings.{Ending, at_end}

abbrev pub held : {S : Type 0} → Buffer S → List ℕ
held b = slice_range b.block b.span.start b.span.end

abbrev pub buffer_bytes : {S : Type 0} → (S → List ℕ) → Buffer S → List ℕ
buffer_bytes bytes b = held b ++ bytes b.below

abbrev pub buffer_ending : {S : Type 0} → (S → Ending) → Buffer S → Ending
buffer_ending ending b = ending b.below

-- how many bytes a fill took
abbrev pub taken : Result ℕ Fault → ℕ
taken (Ok n) = n
taken (Err f) = 0

-- a fill reports a fault below only where it found no byte
abbrev pub Reported : List ℕ → Ending → Result ℕ Fault → Type 0
Reported bs e (Ok n) = bs ≡ [] → e ≡ at_end
Reported bs e (Err f) = (bs ≡ []) × (e ≡ Err f)

-- a block filled from bytes bs that end in e holds the first 64 of them, or all if there are fewer; the others stay below
pub record Filled (bs : List ℕ) (e : Ending) (r : Result ℕ Fault) (block bs' : List ℕ) (e' : Ending) : Type 0 where
  pub holds : take (taken r) block ≡ take 64 bs
  pub leaves : bs' ≡ drop 64 bs
  pub keeps : e' ≡ e
  pub reports : Reported bs e r

-- what a question does to the bytes held and the bytes below: while some are held nothing is taken from below,
-- and with none held one block at most
abbrev pub Ahead : List ℕ → List ℕ → List ℕ → List ℕ → Type 0
Ahead [] below held' below' = (held' ≡ rest (take 64 below)) × (below' ≡ drop 64 below)
Ahead (b ∷ bs) below held' below' = (held' ≡ bs) × (below' ≡ below)
