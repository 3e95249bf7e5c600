use Rattle.std.proofs.Common.{◌≡◌, ◌≤◌, [], length, take}
use Rattle.reader.specs.States.{Moved, seen, untaken, ends}
use Rattle.reader.specs.Texts.{quoted_from}
use Rattle.reader.proofs.ascii_reader.Scanner.quoted_bytes.Given as goal

abbrev pub invariant-loop-c : goal.invariant-loop-c
invariant-loop-c g l =
    let v = seen g.S.ByteSource l.self in
    let v₀ = seen g.S.ByteSource l.initial.self in
    record {
      moved : Moved v₀ v;
      fits : l.n ≤ 1024;
      goes_on : quoted_from l.quote (take l.n l.text) v.position (untaken v) (ends v) ≡ quoted_from l.quote [] v₀.position (untaken v₀) (ends v₀);
    }

abbrev pub decreases-loop-c : goal.decreases-loop-c
decreases-loop-c g l = length (untaken (seen g.S.ByteSource l.self))
