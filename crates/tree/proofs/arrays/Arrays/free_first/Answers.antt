use Rattle.tree.proofs.Releasing.{first_freed}
use Rattle.tree.proofs.arrays.Arrays.free_first.Goals as goal

pub returns : goal.returns
returns c = record {
  freed = first_freed _ _ _ _ _ _ _ _ _
      c.link_last.ensures c.or.ensures c.give.ensures.first c.give.ensures.count c.give.ensures.links c.give.ensures.loads c.give_chain.ensures.freed c.give_chain.ensures.loads;
}
