use Rattle.std.proofs.Common.{set, ap, ◌∙◌}
use Rattle.std.proofs.lemmas.List.{map-set}
use Rattle.std.proofs.Math.Seq.{map-set_same}
use Rattle.cells.proofs.frees.FreeList.give.Goals as goal

pub returns-clause-links : goal.returns-clause-links
returns-clause-links g c = map-set g.C.Linked.linkof c.args.cells.now c.args.at c.set_link.new.self ∙ ap (set _ c.args.at) c.set_link.ensures.link

pub returns-clause-loads : goal.returns-clause-loads
returns-clause-loads g c = map-set_same g.C.Linked.loadof c.args.cells.now c.args.at c.set_link.new.self c.index-cells-at.result c.set_link.ensures.load
