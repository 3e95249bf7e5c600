use Rattle.std.proofs.Common.{replicate, None}
use Rattle.std.proofs.lemmas.List.{length-replicate}
use Rattle.texts.specs.declared.cell.TextCell.{TextCell}
use Rattle.tree.specs.Trees.{blank}
use Rattle.tree.proofs.AllFree.{model_new, blank_at}
use Rattle.tree.proofs.arrays.Arrays.new.Goals as goal

abbrev zeros : TextCell
zeros = record { next = None; bytes = replicate 24 0 }

pub returns : goal.returns
returns c = (
  _,
  _,
  model_new (replicate 512 blank) _ _ (replicate 1024 zeros) _ _ (length-replicate 512 blank) (length-replicate 1024 zeros) (blank_at 512)
      c.of_all-free_nodes.ensures.free c.of_all-free_nodes.ensures.loads c.of_all-free_texts.ensures.free c.of_all-free_texts.ensures.loads,
)
