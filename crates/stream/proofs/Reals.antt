-- Floats that are one value.
use Rattle.std.proofs.Common.{◌≡◌, ℕ, Bool, true, T, eqb, Decides, sym, refl, ap, ◌∙◌, subst, true≢false}
use lib.Ieee.{Float, nan, inf, fin, is_nan, to_bits, of_bits, binary64, fits}
use lib.Ieee.Bits.{of_bits-to_bits}
use Rattle.std.proofs.lemmas.Bool.{eqb-true, eq-eqb}

-- of one that is not a number
pub same_nan : (a b : Float) (r : Bool) → is_nan a ≡ true → r ≡ is_nan b → Decides r (a ≡ b)
unfolding is_nan
same_nan nan nan r h is = (λ _. refl, λ _. is)
same_nan nan (inf s) r h is = (λ yes. absurd (true≢false (sym yes ∙ is)), λ e. absurd (true≢false (ap is_nan e)))
same_nan nan (fin s m x) r h is = (λ yes. absurd (true≢false (sym yes ∙ is)), λ e. absurd (true≢false (ap is_nan e)))
same_nan (inf s) b r h is = absurd (true≢false (sym h))
same_nan (fin s m x) b r h is = absurd (true≢false (sym h))

-- of two numbers
pub same_bits : (a b : Float) → fits binary64 a ≡ true → fits binary64 b ≡ true → Decides (eqb (to_bits binary64 a) (to_bits binary64 b)) (a ≡ b)
same_bits a b fa fb =
    let back : (x : Float) → fits binary64 x ≡ true → of_bits binary64 (to_bits binary64 x) ≡ x = λ x f. of_bits-to_bits binary64 x (subst T (sym f) tt) in (
      λ yes. sym (back a fa) ∙ (ap (λ (n : ℕ). of_bits binary64 n) (eqb-true (to_bits binary64 a) (to_bits binary64 b) yes) ∙ back b fb),
      λ e. eq-eqb (to_bits binary64 a) (to_bits binary64 b) (ap (λ (x : Float). to_bits binary64 x) e),
    )
