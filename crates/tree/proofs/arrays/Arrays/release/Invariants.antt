use Rattle.std.proofs.Common.{◌-◌}
use Rattle.tree.proofs.Releasing.{Releasing}
use Rattle.tree.proofs.arrays.Arrays.release.Given as goal

abbrev pub invariant-loop-todo : goal.invariant-loop-todo
invariant-loop-todo l = Releasing l.initial.self l.n l.self l.todo

abbrev pub decreases-loop-todo : goal.decreases-loop-todo
decreases-loop-todo l = 512 - l.self.free_nodes.count
