use Rattle.std.proofs.Common.{◌≡◌, length}
use Rattle.reader.specs.Meanings.{reading_of}
use Rattle.reader.specs.States.{seen, untaken}
use Rattle.reader.proofs.ascii_reader.Scanner.read_next.Given as goal

abbrev pub invariant-loop-c : goal.invariant-loop-c
invariant-loop-c g l = reading_of (seen g.S.ByteSource l.self) ≡ reading_of (seen g.S.ByteSource l.initial.self)

abbrev pub decreases-loop-c : goal.decreases-loop-c
decreases-loop-c g l = length (untaken (seen g.S.ByteSource l.self))
