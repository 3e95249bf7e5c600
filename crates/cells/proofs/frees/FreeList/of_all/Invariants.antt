use Rattle.std.proofs.Common.{◌≡◌, map}
use Rattle.cells.specs.Chains.{down}
use Rattle.cells.specs.Frees.{Free}
use Rattle.cells.proofs.frees.FreeList.of_all.Given as goal

abbrev pub invariant-loop-at : goal.invariant-loop-at
invariant-loop-at g l = record { free : Free (map g.C.Linked.linkof l.cells) l.list (down l.at); loads : map g.C.Linked.loadof l.cells ≡ map g.C.Linked.loadof l.initial.cells }
