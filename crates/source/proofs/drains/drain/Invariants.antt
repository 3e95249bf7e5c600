use Rattle.std.proofs.Common.{◌≡◌, ◌++◌, length, vec_items}
use Rattle.source.proofs.drains.drain.Given as goal

abbrev pub invariant-loop-source : goal.invariant-loop-source
invariant-loop-source g l =
    let s = g.S.ByteSource in
    (vec_items l.bytes ++ s.bytes l.source ≡ vec_items l.initial.bytes ++ s.bytes l.initial.source)
    × (s.ending l.source ≡ s.ending l.initial.source)

abbrev pub decreases-loop-source : goal.decreases-loop-source
decreases-loop-source g l = length (g.S.ByteSource.bytes l.source)
