-- A quoted text, byte by byte, as the reader goes.
use Rattle.std.proofs.Common.{◌≡◌, ℕ, ◌<◌, true, false, eqb, List, [], ◌∷◌, length, Ok, Err, Result, sym, refl, ap, ◌∙◌, arith}
use Rattle.source.specs.Endings.{Ending}
use Rattle.stream.specs.declared.errors.Error.{Error}
use Rattle.reader.specs.States.{Seen, untaken, ends, Moved, Ran}
use Rattle.reader.specs.Steps.{Done, onward, step_gives}
use Rattle.reader.specs.Texts.{quoted_byte, extended, quoted_from}
use Rattle.reader.proofs.Chains.{moved_trans, ran_on}
use Rattle.reader.proofs.Unfolding.{quoted_behind, taken_byte, quoted_on}

-- a text quoted by q that began at w, of which bs was made at u, and the byte behind it
module _ (q : ℕ) (bs : List ℕ) (w u v : Seen) (on : quoted_from q bs u.position (untaken u) (ends u) ≡ quoted_from q [] w.position (untaken w) (ends w)) where
  pub quoted_fails : (f : Error) → Ran quoted_byte u (Err f) v → Ran (quoted_from q []) w (Err f) v
  quoted_fails f first = sym on ∙ (quoted_on q bs u.position (untaken u) (ends u) ∙ ap (λ (r : Result (Done ℕ) Error). onward r (quoted_behind (quoted_from q) q bs) (ends u)) first)

  module _ (x : ℕ) (first : Ran quoted_byte u (Ok x) v) where
    to_behind : quoted_from q [] w.position (untaken w) (ends w) ≡ quoted_behind (quoted_from q) q bs x v.position (untaken v) (ends v)
    to_behind = sym on ∙ (quoted_on q bs u.position (untaken u) (ends u) ∙ ran_on quoted_byte (quoted_behind (quoted_from q) q bs) u v x first)

    pub quoted_closes : eqb x q ≡ true → Moved w u → Ran (quoted_from q []) w (Ok bs) v
    quoted_closes is moved = (to_behind ∙ rw is, moved_trans w u v moved first.1)

    pub quoted_goes_on : (cs : List ℕ) (v' : Seen) → eqb x q ≡ false → Ran (extended bs x) v (Ok cs) v' → quoted_from q cs v'.position (untaken v') (ends v') ≡ quoted_from q [] w.position (untaken w) (ends w)
    quoted_goes_on cs v' other more = let later = ran_on (extended bs x) (quoted_from q) v v' cs more in sym (to_behind ∙ rw other later)

    pub quoted_refuses : (f : Error) (v' : Seen) → eqb x q ≡ false → Ran (extended bs x) v (Err f) v' → Ran (quoted_from q []) w (Err f) v'
    quoted_refuses f v' other fails = to_behind ∙ rw other (ap (λ (r : Result (Done (List ℕ)) Error). onward r (quoted_from q) (ends v)) fails)

-- a byte of a quoted text that was taken leaves less
pub takes_less : (x : ℕ) (u v : Seen) → Ran quoted_byte u (Ok x) v → length (untaken v) < length (untaken u)
takes_less x u v first = go (untaken u) refl
  where
    none : (p : ℕ) (e : Ending) (d : Done ℕ) → quoted_byte p [] e ≡ Ok d → ⊥
    none p (Ok u) d h = cc
    none p (Err f) d h = cc

    go : (xs : List ℕ) → untaken u ≡ xs → length (untaken v) < length xs
    go [] is = absurd (none u.position (ends u) _ (rw is at first.0))
    go (y ∷ ys) is = let h = taken_byte (step_gives u.position (y ∷ ys) (ends u)) u.position y ys (ends u) in omega (arith, rw (rw is at first.0) at h)
