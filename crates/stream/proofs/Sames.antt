-- Refusals are compared part by part: the same number, and the same of all that they may carry.
use Rattle.std.proofs.Common.{◌≡◌, ℕ, Bool, true, false, cond, ◌&&◌, Some, None, Option, Decides, sym, refl, ap, ◌∙◌, subst}
use Rattle.std.specs.Bool.{one_answer}
use Rattle.std.specs.Cmp.{unsigned_Decides}
use Rattle.std.specs.Option.{option_eq, unwrap_or}
use Rattle.std.specs.Prelude.{◌==◌}
use Rattle.std.proofs.lemmas.Bool.{and_parts, and_from}
use Rattle.stream.specs.Equals.{equal_kind, equal_error, kind_decides, error_decides}
use Rattle.stream.specs.Errors.{number_of, position_of, code_of, expected_of, found_of}
use Rattle.stream.specs.contracts.kinds.EventKindPartialEq.TheImpl.{ghosts}
use Rattle.stream.specs.declared.errors.Error.{Error}
use Rattle.stream.specs.declared.kinds.EventKind.{EventKind}

-- the kinds' own test
kinds_eq : (a b : EventKind) → ghosts.eq a b ≡ equal_kind a b
kinds_eq EventKind.StartArray EventKind.StartArray = refl
kinds_eq EventKind.StartDictionary EventKind.StartDictionary = refl
kinds_eq EventKind.EndCollection EventKind.EndCollection = refl
kinds_eq EventKind.Boolean EventKind.Boolean = refl
kinds_eq EventKind.Data EventKind.Data = refl
kinds_eq EventKind.Integer EventKind.Integer = refl
kinds_eq EventKind.Real EventKind.Real = refl
kinds_eq EventKind.String EventKind.String = refl
kinds_eq EventKind.Uid EventKind.Uid = refl
kinds_eq EventKind.ValueOrStartCollection EventKind.ValueOrStartCollection = refl
kinds_eq EventKind.DictionaryKeyOrEndCollection EventKind.DictionaryKeyOrEndCollection = refl
kinds_eq _ _ = refl

kinds_decide : (a b : EventKind) → Decides (ghosts.eq a b) (a ≡ b)
kinds_decide a b = (λ h. (kind_decides a b).0 (sym (kinds_eq a b) ∙ h), λ e. kinds_eq a b ∙ (kind_decides a b).1 e)

option_decides : {X : Type 0} (E : X → X → Bool) → ((a b : X) → Decides (E a b) (a ≡ b)) → (m n : Option X) → Decides (option_eq E m n) (m ≡ n)
option_decides {X = X} E d m n = (only m n, λ e. ap (λ o. option_eq E m o) (sym e) ∙ itself m)
  where
    itself : (o : Option X) → option_eq E o o ≡ true
    itself None = refl
    itself (Some a) = (d a a).1 refl

    only : (o p : Option X) → option_eq E o p ≡ true → o ≡ p
    only None None h = refl
    only None (Some b) h = cc
    only (Some a) None h = cc
    only (Some a) (Some b) h = ap Some ((d a b).0 h)

-- the refusal that has these parts
build : ℕ → Option ℕ → Option EventKind → Option EventKind → Option ℕ → Error
build n c e f p =
    let code = unwrap_or c 0 in
    let expected = unwrap_or e EventKind.StartArray in
    let found = unwrap_or f EventKind.StartArray in
    let position = unwrap_or p 0 in
    cond (n == 1) Error.ShortScratch
    (cond (n == 2) Error.NoValue
    (cond (n == 3) Error.WrongKind
    (cond (n == 4) Error.NoTree
    (cond (n == 5) Error.Inside
    (cond (n == 6) Error.BadKey
    (cond (n == 7) (Error.Io code position)
    (cond (n == 8) (Error.TooLong position)
    (cond (n == 9) (Error.TextTooLong position)
    (cond (n == 10) (Error.UnclosedString position)
    (cond (n == 11) (Error.IncompleteComment position)
    (cond (n == 12) (Error.InvalidUtf8AsciiStream position)
    (cond (n == 13) (Error.InvalidOctalString position)
    (cond (n == 14) (Error.InvalidUtf16String position)
    (cond (n == 15) (Error.UnexpectedEventType expected found)
    (cond (n == 16) (Error.ExpectedEndOfEventStream found)
    (cond (n == 17) Error.NoNodes
    (cond (n == 18) Error.NoTextCells Error.UnexpectedEndOfEventStream)))))))))))))))))

built : (x : Error) → build (number_of x) (code_of x) (expected_of x) (found_of x) (position_of x) ≡ x
unfolding build
built Error.ShortScratch = refl
built Error.NoValue = refl
built Error.WrongKind = refl
built Error.NoTree = refl
built Error.Inside = refl
built Error.BadKey = refl
built (Error.Io c p) = refl
built (Error.TooLong p) = refl
built (Error.TextTooLong p) = refl
built (Error.UnclosedString p) = refl
built (Error.IncompleteComment p) = refl
built (Error.InvalidUtf8AsciiStream p) = refl
built (Error.InvalidOctalString p) = refl
built (Error.InvalidUtf16String p) = refl
built (Error.UnexpectedEventType e f) = refl
built (Error.ExpectedEndOfEventStream f) = refl
built Error.NoNodes = refl
built Error.NoTextCells = refl
built Error.UnexpectedEndOfEventStream = refl

module _ (x y : Error) where
  abbrev pub same_number : Bool
  same_number = number_of x == number_of y

  abbrev pub same_code : Bool
  same_code = option_eq ◌==◌ (code_of x) (code_of y)

  abbrev pub same_expected : Bool
  same_expected = option_eq ghosts.eq (expected_of x) (expected_of y)

  abbrev pub same_found : Bool
  same_found = option_eq ghosts.eq (found_of x) (found_of y)

  abbrev pub same_position : Bool
  same_position = option_eq ◌==◌ (position_of x) (position_of y)

  abbrev pub same_parts : Bool
  same_parts = (((same_number && same_code) && same_expected) && same_found) && same_position

  -- the values of `&&`, one after another
  pub in_parts : (v w u r : Bool) → v ≡ (same_number && same_code) → w ≡ (v && same_expected) → u ≡ (w && same_found) → r ≡ (u && same_position) → r ≡ same_parts
  in_parts v w u r ev ew eu er =
      er
      ∙ ap (λ (b : Bool). b && same_position) (eu
      ∙ ap (λ (b : Bool). b && same_found) (ew
      ∙ ap (λ (b : Bool). b && same_expected) ev))

  parts_only : same_parts ≡ true → x ≡ y
  parts_only h =
      let p = and_parts (((same_number && same_code) && same_expected) && same_found) same_position h in
      let f = and_parts ((same_number && same_code) && same_expected) same_found p.0 in
      let e = and_parts (same_number && same_code) same_expected f.0 in
      let c = and_parts same_number same_code e.0 in
      let n : number_of x ≡ number_of y = (unsigned_Decides (number_of x) (number_of y)).0 c.0 in
      let cc' : code_of x ≡ code_of y = (option_decides ◌==◌ unsigned_Decides (code_of x) (code_of y)).0 c.1 in
      let ee : expected_of x ≡ expected_of y = (option_decides ghosts.eq kinds_decide (expected_of x) (expected_of y)).0 e.1 in
      let ff : found_of x ≡ found_of y = (option_decides ghosts.eq kinds_decide (found_of x) (found_of y)).0 f.1 in
      let pp : position_of x ≡ position_of y = (option_decides ◌==◌ unsigned_Decides (position_of x) (position_of y)).0 p.1 in
      sym (built x) ∙ ((λ i. build (n i) (cc' i) (ee i) (ff i) (pp i)) ∙ built y)

  parts_from : x ≡ y → same_parts ≡ true
  parts_from s =
      and_from (((same_number && same_code) && same_expected) && same_found) same_position
      (and_from ((same_number && same_code) && same_expected) same_found
      (and_from (same_number && same_code) same_expected
      (and_from same_number same_code ((unsigned_Decides (number_of x) (number_of y)).1 (ap number_of s)) ((option_decides ◌==◌ unsigned_Decides (code_of x) (code_of y)).1 (ap code_of s)))
      ((option_decides ghosts.eq kinds_decide (expected_of x) (expected_of y)).1 (ap expected_of s)))
      ((option_decides ghosts.eq kinds_decide (found_of x) (found_of y)).1 (ap found_of s)))
      ((option_decides ◌==◌ unsigned_Decides (position_of x) (position_of y)).1 (ap position_of s))

  pub parts_error : same_parts ≡ equal_error x y
  parts_error = one_answer same_parts (equal_error x y) (parts_only, parts_from) (error_decides x y)

  -- a test with that answer decides it
  pub error_decided : (r : Bool) → r ≡ equal_error x y → Decides r (x ≡ y)
  error_decided r e = subst (λ (b : Bool). Decides b (x ≡ y)) (sym e) (error_decides x y)

-- what `&&` answers, by its two branches
pub both : (p q v : Bool) → p ≡ true → v ≡ q → v ≡ (p && q)
both p q v h e = e ∙ ap (λ (b : Bool). b && q) (sym h)

pub first_not : (p q v : Bool) → p ≡ false → v ≡ p → v ≡ (p && q)
first_not p q v h e = e ∙ (h ∙ ap (λ (b : Bool). b && q) (sym h))
