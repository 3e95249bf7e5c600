use Rattle.std.proofs.Common.{◌≡◌, sym, ◌∙◌, rules}
use Rattle.std.specs.Ordering.{int_eq}
use Rattle.text.specs.Integers.{value}
use Rattle.stream.specs.Equals.{event_decides}
use Rattle.stream.specs.declared.events.Event.TheVariants.{Integer}
use Rattle.stream.proofs.events.EventPartialEq.eq.Goals as goal

pub returns-in-Integer-Integer-clause-same : goal.returns-in-Integer-Integer-clause-same
returns-in-Integer-Integer-clause-same c =
    let a = c.in-Integer-Integer.a in
    let b = c.in-Integer-Integer.b in
    let tests : c.eq-in-Integer-Integer.result ≡ int_eq (value a) (value b) = search rules in
    let decides = event_decides (Integer a) (Integer b) in (
      λ yes. c.in-Integer-Integer.is-0 ∙ (decides.0 (sym tests ∙ yes) ∙ sym c.in-Integer-Integer.is-1),
      λ e. tests ∙ decides.1 (sym c.in-Integer-Integer.is-0 ∙ (e ∙ c.in-Integer-Integer.is-1)),
    )
