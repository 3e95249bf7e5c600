use Rattle.tree.proofs.Counting.{free_nodes, free_texts}
use Rattle.tree.proofs.arrays.Arrays.free.Goals as goal

pub returns : goal.returns
returns c = record { nodes = free_nodes c.args.self.now; texts = free_texts c.args.self.now }
