use Rattle.std.proofs.Common.{◌≡◌, ℕ, ◌-◌, ◌<◌, map, length, Some}
use Rattle.cells.proofs.Giving.{Giving}
use Rattle.cells.proofs.frees.FreeList.give_chain.Given as goal

abbrev pub invariant-loop-todo : goal.invariant-loop-todo
invariant-loop-todo g l = record {
  giving : Giving (map g.C.Linked.linkof l.initial.cells) l.initial.todo l.initial.self (map g.C.Linked.linkof l.cells) l.todo l.self;
  within : (i : ℕ) → l.todo ≡ Some i → (i < length l.cells) × (l.self.count < length l.cells);
  loads : map g.C.Linked.loadof l.cells ≡ map g.C.Linked.loadof l.initial.cells;
}

abbrev pub decreases-loop-todo : goal.decreases-loop-todo
decreases-loop-todo g l = length l.initial.cells - l.self.count
