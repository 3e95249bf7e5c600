use Rattle.std.proofs.Common.{length}
use Rattle.tree.proofs.Finding.{Finding, reach}
use Rattle.tree.proofs.arrays.Arrays.find_pair.Given as goal

abbrev pub invariant-pairs : goal.invariant-pairs
invariant-pairs l = Finding l.self l.dictionary l.key l.todo

abbrev pub decreases-pairs : goal.decreases-pairs
decreases-pairs l = reach (length l.self.nodes) l.self.nodes l.todo
