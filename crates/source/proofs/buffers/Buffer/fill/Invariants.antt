use Rattle.std.proofs.Common.{◌≡◌, ◌++◌, length, take}
use Rattle.source.proofs.buffers.Buffer.fill.Given as goal

abbrev pub invariant-loop-n : goal.invariant-loop-n
invariant-loop-n g l =
    let s = g.S.ByteSource in
    record {
      full : length l.block ≡ 64;
      moved : take l.n l.block ++ s.bytes l.below ≡ s.bytes l.initial.below;
      kept : l.n ≡ 0 → l.block ≡ l.initial.block;
      same : s.ending l.below ≡ s.ending l.initial.below;
    }
