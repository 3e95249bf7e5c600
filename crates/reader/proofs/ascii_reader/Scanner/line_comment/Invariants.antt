use Rattle.std.proofs.Common.{◌≡◌, length}
use Rattle.reader.specs.Comments.{line_comment_lem}
use Rattle.reader.specs.States.{Moved, seen, untaken, ends}
use Rattle.reader.proofs.ascii_reader.Scanner.line_comment.Given as goal

abbrev pub invariant-loop-self : goal.invariant-loop-self
invariant-loop-self g l =
    let v = seen g.S.ByteSource l.self in
    let v₀ = seen g.S.ByteSource l.initial.self in
    Moved v₀ v × (line_comment_lem v.position (untaken v) (ends v) ≡ line_comment_lem v₀.position (untaken v₀) (ends v₀))

abbrev pub decreases-loop-self : goal.decreases-loop-self
decreases-loop-self g l = length (untaken (seen g.S.ByteSource l.self))
