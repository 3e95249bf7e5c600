-- How a refusal is written.
use Rattle.std.proofs.Common.{◌≡◌, ℕ, List, Some, None, codes, decimal, Option, refl, ap, ◌∙◌}
use Rattle.std.specs.Fmt.{option_append}
use Rattle.stream.specs.Errors.{number_of, name_of, code_of, expected_of, found_of, position_of, carried, refusal_text}
use Rattle.stream.specs.Kinds.{kind_name}
use Rattle.stream.specs.Labels.{labelled}
use Rattle.stream.specs.declared.errors.Error.{Error}

-- what a label and a value write
pub carried_is : {X : Type 0} (f : X → List ℕ) (label label' : List ℕ) (o m o' : Option X) → label ≡ label' → o ≡ m → m ≡ o' → labelled label (λ x. Some (f x)) o ≡ Some (carried label' f o')
carried_is {X = X} f label label' o m o' hl ho hm = ap (λ (l : List ℕ). labelled l (λ x. Some (f x)) o) hl ∙ (ap (labelled label' (λ x. Some (f x))) (ho ∙ hm) ∙ same o')
  where
    same : (p : Option X) → labelled label' (λ x. Some (f x)) p ≡ Some (carried label' f p)
    same None = refl
    same (Some x) = refl

-- all parts of a refusal, one after another
pub refusal_is : (e : Error) (n : ℕ) (name : List ℕ) (code expected found position : Option (List ℕ)) → n ≡ number_of e → name ≡ name_of e
    → code ≡ Some (carried (codes " code=") decimal (code_of e)) → expected ≡ Some (carried (codes " expected=") kind_name (expected_of e)) → found ≡ Some (carried (codes " found=") kind_name (found_of e))
    → position ≡ Some (carried (codes " at ") decimal (position_of e))
    → option_append (Some (codes "refused ")) (option_append (Some (decimal n)) (option_append (Some (codes " ")) (option_append (Some name) (option_append code (option_append expected (option_append found position)))))) ≡ Some (refusal_text e)
refusal_is e n name code expected found position hn hname hcode hexpected hfound hposition = rw (hn, hname, hcode, hexpected, hfound, hposition)
