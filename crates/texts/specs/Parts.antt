-- What the iterator over the parts of a text gives.
use Rattle.std.specs.Prelude.{◌≡◌, ℕ, ◌-◌, min, List, Some, None, Option, MatchOption}
use Rattle.std.specs.Borrow.{Bor}
use Rattle.texts.specs.declared.parts.Parts.{Parts}
use Rattle.texts.specs.Texts.{at, front}

-- The block of the cell where the rest begins comes, as far as the text goes, and then the cell that it links to; at the end nothing comes.
abbrev pub parts_steps : Parts → Option (Bor (List ℕ)) → Parts → Type 0
parts_steps s r t = MatchOption r ((s.todo ≡ None) × (t ≡ s))
    (λ part. (i : ℕ) × (s.todo ≡ Some i) × (part.now ≡ front (min s.left 24) (at s.cells.now i).bytes) × (t.cells ≡ s.cells) × (t.todo ≡ (at s.cells.now i).next) × (t.left ≡ s.left - 24))
