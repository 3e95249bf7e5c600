use Rattle.tree.proofs.Finding.{finding_start, finding_text, finding_less, finding_found, finding_more, finding_none}
use Rattle.tree.proofs.arrays.Arrays.find_pair.Goals as goal

pub pairs-init : goal.pairs-init
pairs-init c = finding_start _ _ _ c.requires.placed _

pub same_text-requires : goal.same_text-requires
same_text-requires c = record { held = finding_text _ _ _ c.requires.placed _ c.pairs.invariant _ c.in-Some.is _ }

pub returns-then-same_text : goal.returns-then-same_text
returns-then-same_text c = record {
  found = finding_found _ _ _ c.requires.placed _ c.pairs.invariant _ c.in-Some.is _ _ c.same_text.ensures.same c.if-same_text.true;
}

pub pairs-smaller : goal.pairs-smaller
pairs-smaller c = finding_less _ _ _ c.requires.placed _ c.pairs.invariant _ c.in-Some.is _

pub pairs-preserved : goal.pairs-preserved
pairs-preserved c = finding_more _ _ _ c.requires.placed _ c.pairs.invariant _ c.in-Some.is _ _ c.same_text.ensures.same c.if-same_text.false

pub returns : goal.returns
returns c = record { found = finding_none _ _ _ c.requires.placed _ c.pairs.invariant c.in_default.is }
