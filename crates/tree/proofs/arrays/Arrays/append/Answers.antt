use Rattle.tree.proofs.Appending.{model_appended}
use Rattle.tree.proofs.arrays.Arrays.append.Goals as goal

pub returns : goal.returns
returns c = record { appended = λ ts rep h. model_appended _ ts rep _ _ h _ c.link_below.ensures }
