use Rattle.std.proofs.Common.{length, Some}
use Rattle.tree.proofs.WaysUp.{ups, WayUp, links_from}
use Rattle.tree.proofs.arrays.Arrays.tree_of.Given as goal

abbrev pub invariant-loop-at : goal.invariant-loop-at
invariant-loop-at l = WayUp l.self l.n l.at

abbrev pub decreases-loop-at : goal.decreases-loop-at
decreases-loop-at l = links_from (length l.self.nodes) (ups l.self.nodes) (Some l.at)
