use Rattle.tree.proofs.WaysUp.{way_start, way_more, way_less, way_done}
use Rattle.tree.proofs.arrays.Arrays.tree_of.Goals as goal

pub loop-at-init : goal.loop-at-init
loop-at-init c = way_start _ _ c.requires.placed

pub loop-at-smaller : goal.loop-at-smaller
loop-at-smaller c = way_less _ _ c.requires.placed _ c.loop-at.invariant _ _ c.in-Some.is

pub loop-at-preserved : goal.loop-at-preserved
loop-at-preserved c = way_more _ _ c.requires.placed _ c.loop-at.invariant _ _ c.in-Some.is

pub returns : goal.returns
returns c =
    let done = way_done _ _ c.requires.placed _ c.loop-at.invariant _ c.in_default.is in
    record { root = λ ts rep u p. (done ts rep u p).0; lies = λ ts rep u p. (done ts rep u p).1 }
