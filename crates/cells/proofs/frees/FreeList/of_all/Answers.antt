use Rattle.std.proofs.Common.{◌<◌, map, length, ◌∙◌, arith}
use Rattle.std.proofs.lemmas.List.{length-map}
use Rattle.cells.proofs.Downs.{length_down, down_more}
use Rattle.cells.proofs.frees.FreeList.of_all.Goals as goal

pub give-requires-clause-room : goal.give-requires-clause-room
give-requires-clause-room g c = omega (arith, length_down c.loop-at.at, c.loop-at.invariant.free.counted, c.requires.few)

pub loop-at-preserved : goal.loop-at-preserved
loop-at-preserved g c =
    let linkof = g.C.Linked.linkof in
    let links = map linkof c.loop-at.cells in
    let within : c.loop-at.at < length links = omega (arith, length-map c.loop-at.cells linkof) in
    record {
      free = down_more links (map linkof c.give.new.cells) c.loop-at.list c.give.new.self c.loop-at.at within c.give.ensures.first c.give.ensures.count c.give.ensures.links c.loop-at.invariant.free;
      loads = c.give.ensures.loads ∙ c.loop-at.invariant.loads;
    }
