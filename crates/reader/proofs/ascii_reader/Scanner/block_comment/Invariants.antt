use Rattle.std.proofs.Common.{◌≡◌, length}
use Rattle.reader.specs.Comments.{in_comment}
use Rattle.reader.specs.States.{Moved, seen, untaken, ends}
use Rattle.reader.proofs.ascii_reader.Scanner.block_comment.Given as goal

abbrev pub invariant-loop-c : goal.invariant-loop-c
invariant-loop-c g l =
    let v = seen g.S.ByteSource l.self in
    let v₀ = seen g.S.ByteSource l.initial.self in
    Moved v₀ v × (in_comment l.state v.position (untaken v) (ends v) ≡ in_comment l.initial.state v₀.position (untaken v₀) (ends v₀))

abbrev pub decreases-loop-c : goal.decreases-loop-c
decreases-loop-c g l = length (untaken (seen g.S.ByteSource l.self))
