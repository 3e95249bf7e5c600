use Rattle.std.proofs.Common.{◌≡◌, ◌≤◌, [], ◌∷◌, length, take}
use Rattle.reader.specs.States.{Moved, seen, untaken, ends}
use Rattle.reader.specs.Texts.{plain}
use Rattle.reader.proofs.ascii_reader.Scanner.unquoted_bytes.Given as goal

abbrev pub invariant-loop-self : goal.invariant-loop-self
invariant-loop-self g l =
    let v = seen g.S.ByteSource l.self in
    let v₀ = seen g.S.ByteSource l.initial.self in
    record {
      moved : Moved v₀ v;
      fits : l.n ≤ 1024;
      goes_on : plain (take l.n l.text) v.position (untaken v) (ends v) ≡ plain (l.first ∷ []) v₀.position (untaken v₀) (ends v₀);
    }

abbrev pub decreases-loop-self : goal.decreases-loop-self
decreases-loop-self g l = length (untaken (seen g.S.ByteSource l.self))
