use Rattle.std.proofs.Common.{ℕ, List, Some, codes, decimal}
use Rattle.std.proofs.Output.{displays_on_ok_of_eq}
use Rattle.stream.specs.Errors.{refusal_text}
use Rattle.stream.specs.Kinds.{kind_name}
use Rattle.stream.proofs.Refusals.{carried_is, refusal_is}
use Rattle.stream.proofs.errors.ErrorDisplay.fmt.Goals as goal

pub returns-clause-writes : goal.returns-clause-writes
returns-clause-writes g c =
    let e = c.args.self.now in
    let name : List ℕ = c.name-name.result.now in
    displays_on_ok_of_eq g.W.Write.write_str_gives c.args.f.now c.write.new.self c.write.result _ (Some (refusal_text e))
    (refusal_is e c.number-number.result name _ _ _ _ c.number-number.ensures c.name-name.ensures
    (carried_is decimal c.new-code.result.label.now (codes " code=") c.new-code.result.value c.code.result _ c.new-code.ensures.label c.new-code.ensures.value c.code.ensures)
    (carried_is kind_name c.new-expected.result.label.now (codes " expected=") c.new-expected.result.value c.expected.result _ c.new-expected.ensures.label c.new-expected.ensures.value c.expected.ensures)
    (carried_is kind_name c.new-found.result.label.now (codes " found=") c.new-found.result.value c.found.result _ c.new-found.ensures.label c.new-found.ensures.value c.found.ensures)
    (carried_is decimal c.new-position.result.label.now (codes " at ") c.new-position.result.value c.position.result _ c.new-position.ensures.label c.new-position.ensures.value c.position.ensures))
    c.write.ensures.writes
