use Rattle.std.proofs.Common.{◌≡◌, ◌&&◌, ◌==◌, sym, refl, ◌∙◌, rules}
use Rattle.std.proofs.lemmas.Bool.{ne_eqb}
use Rattle.std.specs.Cmp.{unsigned_Decides}
use Rattle.stream.specs.Equals.{equal_error}
use Rattle.stream.specs.Errors.{number_of}
use Rattle.stream.proofs.Sames.{same_number, same_code, same_expected, same_found, same_position, in_parts, parts_error, error_decided, both, first_not}
use Rattle.stream.proofs.errors.ErrorPartialEq.eq.Goals as goal
use Rattle.stream.proofs.errors.ErrorPartialEq.eq.Goals.{then-number, else-number, then-eq, else-eq, then-eq-2, else-eq-2}

pub returns-then-eq-3 : goal.returns-then-eq-3
returns-then-eq-3 c =
    let x = c.args.self.now in
    let y = c.args.other.now in
    let n : c.if-number.value ≡ (same_number x y && same_code x y) = elim c.if-number.branch [
      | then-number w ↦ both (same_number x y) (same_code x y) c.if-number.value
          ((unsigned_Decides (number_of x) (number_of y)).1 (sym c.number.ensures ∙ (w.if-number.true ∙ c.number-2.ensures))) (w.value-is ∙ search rules)
      | else-number w ↦ first_not (same_number x y) (same_code x y) c.if-number.value
          (ne_eqb (number_of x) (number_of y) (λ e. w.if-number.false (c.number.ensures ∙ (e ∙ sym c.number-2.ensures))))
          (w.value-is ∙ (λ i. c.number.ensures i == c.number-2.ensures i))
    ] in
    let e : c.if-eq.value ≡ (c.if-number.value && same_expected x y) = elim c.if-eq.branch [
      | then-eq w ↦ both c.if-number.value (same_expected x y) c.if-eq.value w.if-eq.true (w.value-is ∙ search rules)
      | else-eq w ↦ first_not c.if-number.value (same_expected x y) c.if-eq.value w.if-eq.false w.value-is
    ] in
    let f : c.if-eq-2.value ≡ (c.if-eq.value && same_found x y) = elim c.if-eq-2.branch [
      | then-eq-2 w ↦ both c.if-eq.value (same_found x y) c.if-eq-2.value w.if-eq-2.true (w.value-is ∙ search rules)
      | else-eq-2 w ↦ first_not c.if-eq.value (same_found x y) c.if-eq-2.value w.if-eq-2.false w.value-is
    ] in
    let p : c.eq-then-eq-3.result ≡ (c.if-eq-2.value && same_position x y) = both c.if-eq-2.value (same_position x y) c.eq-then-eq-3.result c.if-eq-3.true (search rules) in
    let value : c.eq-then-eq-3.result ≡ equal_error x y = in_parts x y c.if-number.value c.if-eq.value c.if-eq-2.value c.eq-then-eq-3.result n e f p ∙ parts_error x y in
    record { value = value; same = error_decided x y c.eq-then-eq-3.result value }

pub returns-else-eq-3 : goal.returns-else-eq-3
returns-else-eq-3 c =
    let x = c.args.self.now in
    let y = c.args.other.now in
    let n : c.if-number.value ≡ (same_number x y && same_code x y) = elim c.if-number.branch [
      | then-number w ↦ both (same_number x y) (same_code x y) c.if-number.value
          ((unsigned_Decides (number_of x) (number_of y)).1 (sym c.number.ensures ∙ (w.if-number.true ∙ c.number-2.ensures))) (w.value-is ∙ search rules)
      | else-number w ↦ first_not (same_number x y) (same_code x y) c.if-number.value
          (ne_eqb (number_of x) (number_of y) (λ e. w.if-number.false (c.number.ensures ∙ (e ∙ sym c.number-2.ensures))))
          (w.value-is ∙ (λ i. c.number.ensures i == c.number-2.ensures i))
    ] in
    let e : c.if-eq.value ≡ (c.if-number.value && same_expected x y) = elim c.if-eq.branch [
      | then-eq w ↦ both c.if-number.value (same_expected x y) c.if-eq.value w.if-eq.true (w.value-is ∙ search rules)
      | else-eq w ↦ first_not c.if-number.value (same_expected x y) c.if-eq.value w.if-eq.false w.value-is
    ] in
    let f : c.if-eq-2.value ≡ (c.if-eq.value && same_found x y) = elim c.if-eq-2.branch [
      | then-eq-2 w ↦ both c.if-eq.value (same_found x y) c.if-eq-2.value w.if-eq-2.true (w.value-is ∙ search rules)
      | else-eq-2 w ↦ first_not c.if-eq.value (same_found x y) c.if-eq-2.value w.if-eq-2.false w.value-is
    ] in
    let p : c.if-eq-2.value ≡ (c.if-eq-2.value && same_position x y) = first_not c.if-eq-2.value (same_position x y) c.if-eq-2.value c.if-eq-3.false refl in
    let value : c.if-eq-2.value ≡ equal_error x y = in_parts x y c.if-number.value c.if-eq.value c.if-eq-2.value c.if-eq-2.value n e f p ∙ parts_error x y in
    record { value = value; same = error_decided x y c.if-eq-2.value value }
