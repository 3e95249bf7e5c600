use Rattle.std.proofs.Common.{◌≡◌, ℕ, ◌-◌, ◌<◌, List, length, Some, sym, refl, ap, ◌∙◌, arith}
use Rattle.texts.specs.Texts.{at, front, Spans}
use Rattle.texts.proofs.Reading.{front_take, some_below, some_more, some_left}
use Rattle.texts.proofs.parts.PartsIterator.next.Goals as goal

pub bounds-self-branch : goal.bounds-self-branch
bounds-self-branch c = some_below c.args.self.now.cells.now c.args.self.now.todo c.in_ok-cell.field-0 c.args.self.now.left (cc) c.requires

pub returns-clause-steps : goal.returns-clause-steps
returns-clause-steps c =
    let s = c.args.self.now in
    let i = c.in_ok-cell.field-0 in
    let block = (at s.cells.now i).bytes in
    let part = c.split_at.ensures in (
      i,
      cc,
      part.front ∙ sym (front_take c.min.result block (ap length (sym part.front) ∙ part.front_len)) ∙ ap (λ (k : ℕ). front k block) c.min.ensures,
      refl,
      refl,
      omega (arith, part.front_len, c.min.ensures),
    )

pub returns-clause-goes : goal.returns-clause-goes
returns-clause-goes c =
    let s = c.args.self.now in
    let i = c.in_ok-cell.field-0 in
    let here : s.todo ≡ Some i = cc in
    let left = s.left - length c.split_at.result.0.now in
    let next : ∥ ((is : List ℕ) × Spans s.cells.now (at s.cells.now i).next is left) ∥₁ = some_left s.cells.now s.todo i s.left left here (omega (arith, c.split_at.ensures.front_len, c.min.ensures)) c.requires in
    let more : 0 < s.left = some_more s.cells.now s.todo i s.left here c.requires in
    record {
      on = λ f. (next, f, omega (arith, c.split_at.ensures.front_len, c.min.ensures));
      keeps = next;
      rests = λ f. tt;
    }
