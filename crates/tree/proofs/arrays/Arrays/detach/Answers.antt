use Rattle.tree.proofs.Appending.{detached_none, detached_some}
use Rattle.tree.proofs.arrays.Arrays.detach.Goals as goal

pub returns-in_err-value : goal.returns-in_err-value
returns-in_err-value c = record { detached = detached_none _ _ _ _ c.in_err-value.was c.from_residual.ensures }

pub returns : goal.returns
returns c = record { detached = detached_some _ _ _ _ _ c.in_ok-value.was c.unlink_below.ensures }
