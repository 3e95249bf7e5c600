use Rattle.std.proofs.Common.{◌≡◌, [], Err, ap, ◌∙◌, arith, rules}
use Rattle.std.proofs.lemmas.Grind.{common_steps}
use Rattle.source.specs.Asking.{rest}
use Rattle.source.specs.Buffers.{held}
use Rattle.source.proofs.Blocks.{asked_filled, asked_faulted}
use Rattle.source.proofs.buffers.BufferByteSource.next.Goals as goal

pub returns-in_err-fill : goal.returns-in_err-fill
returns-in_err-fill g c =
    let was = held c.args.self.now in
    let took = c.take_held.ensures in
    let none : was ≡ [] = grind (arith, common_steps) in
    let filled = rw took.below at c.in_err-fill.ensures.filled in
    let is : c.from_residual.result ≡ Err c.in_err-fill.field-0.0 = search rules in
    let both = asked_faulted was c.in_err-fill.field-0.0 none filled (rw c.in_err-fill.ensures.kept (took.leaves ∙ ap rest none)) in
    record { asked = rw is both.0; ahead = both.1 }

pub returns : goal.returns
returns g c =
    let was = held c.args.self.now in
    let again = c.take_held-2.ensures in
    let none : was ≡ [] = grind (arith, common_steps) in
    let filled = rw c.take_held.ensures.below at c.in_ok-fill.ensures.filled in
    let both = asked_filled was none filled again.leaves in
    record { asked = rw (again.gives, again.below) both.0; ahead = rw again.below both.1 }
