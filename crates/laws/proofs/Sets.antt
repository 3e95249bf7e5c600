-- Sets of bytes: the format's, and the tests of the reading.
use Rattle.std.proofs.Common.{◌≡◌, ℕ, Bool, true, false, ◌||◌, eqb, ◌⊎◌, List, [], ◌∷◌, ◌++◌, sym, refl, ap, ◌∙◌, inl, inr}
use Rattle.std.proofs.lemmas.Bool.{false≢true, eqb-true, eq-eqb, or_cases, or_left, or_right, cases_Bool}
use Rattle.laws.specs.Format.{OneOf, separators, plain_ends}
use Rattle.reader.specs.Texts.{ends_plain_lem}
use Rattle.reader.specs.Tokens.{separator}

abbrev pub one_of : List ℕ → ℕ → Bool
one_of [] x = false
one_of (y ∷ ys) x = eqb x y || one_of ys x

pub one_of_true : (ys : List ℕ) (x : ℕ) → one_of ys x ≡ true → OneOf ys x
one_of_true [] x e = absurd (false≢true e)
one_of_true (y ∷ ys) x e = elim (or_cases (eqb x y) (one_of ys x) e) [ inl a ↦ inl (eqb-true x y a) | inr b ↦ inr (one_of_true ys x b) ]

pub one_of_since : (ys : List ℕ) (x : ℕ) → OneOf ys x → one_of ys x ≡ true
one_of_since [] x o = absurd o
one_of_since (y ∷ ys) x (inl e) = or_left (eqb x y) (one_of ys x) (eq-eqb x y e)
one_of_since (y ∷ ys) x (inr o) = or_right (eqb x y) (one_of ys x) (one_of_since ys x o)

pub none_of : (ys : List ℕ) (x : ℕ) → (OneOf ys x → ⊥) → one_of ys x ≡ false
none_of ys x no_one = elim (cases_Bool (one_of ys x)) [ inl t ↦ absurd (no_one (one_of_true ys x t)) | inr f ↦ f ]

pub none_of_false : (ys : List ℕ) (x : ℕ) → one_of ys x ≡ false → OneOf ys x → ⊥
none_of_false ys x f o = false≢true (sym f ∙ one_of_since ys x o)

-- of two sets together
pub one_of_left : (ys zs : List ℕ) (x : ℕ) → OneOf ys x → OneOf (ys ++ zs) x
one_of_left [] zs x o = absurd o
one_of_left (y ∷ ys) zs x (inl e) = inl e
one_of_left (y ∷ ys) zs x (inr o) = inr (one_of_left ys zs x o)

pub one_of_right : (ys zs : List ℕ) (x : ℕ) → OneOf zs x → OneOf (ys ++ zs) x
one_of_right [] zs x o = o
one_of_right (y ∷ ys) zs x o = inr (one_of_right ys zs x o)

pub one_of_either : (ys zs : List ℕ) (x : ℕ) → OneOf (ys ++ zs) x → OneOf ys x ⊎ OneOf zs x
one_of_either [] zs x o = inr o
one_of_either (y ∷ ys) zs x (inl e) = inl (inl e)
one_of_either (y ∷ ys) zs x (inr o) = elim (one_of_either ys zs x o) [ inl a ↦ inl (inr a) | inr b ↦ inr b ]

or_false : (b : Bool) → (b || false) ≡ b
or_false true = refl
or_false false = refl

pub separator_is : (x : ℕ) → one_of separators x ≡ separator x
separator_is x = ap (λ t. eqb x 32 || (eqb x 13 || (eqb x 9 || (eqb x 10 || (eqb x 44 || (eqb x 59 || t)))))) (or_false (eqb x 61))

pub ends_plain_is : (x : ℕ) → one_of plain_ends x ≡ ends_plain_lem x
ends_plain_is x = ap (λ t. eqb x 32 || (eqb x 41 || (eqb x 13 || (eqb x 9 || (eqb x 59 || (eqb x 44 || (eqb x 10 || (eqb x 125 || t)))))))) (or_false (eqb x 61))

-- each separator ends a plain token
pub separator_ends : (x : ℕ) → OneOf separators x → OneOf plain_ends x
separator_ends x (inl e) = inl e
separator_ends x (inr (inl e)) = inr (inr (inl e))
separator_ends x (inr (inr (inl e))) = inr (inr (inr (inl e)))
separator_ends x (inr (inr (inr (inl e)))) = inr (inr (inr (inr (inr (inr (inl e))))))
separator_ends x (inr (inr (inr (inr (inl e))))) = inr (inr (inr (inr (inr (inl e)))))
separator_ends x (inr (inr (inr (inr (inr (inl e)))))) = inr (inr (inr (inr (inl e))))
separator_ends x (inr (inr (inr (inr (inr (inr (inl e))))))) = inr (inr (inr (inr (inr (inr (inr (inr (inl e))))))))
separator_ends x (inr (inr (inr (inr (inr (inr (inr o))))))) = absurd o
