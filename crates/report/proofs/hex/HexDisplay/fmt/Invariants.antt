use Rattle.std.proofs.Common.{◌≡◌, List, ℕ, ◌++◌}
use Rattle.std.specs.Fmt.{HasWritten, IsPlainFormatter}
use Rattle.std.specs.Slice.Iter.{chunks_rest, chunks_size}
use Rattle.report.specs.Hex.{hex}
use Rattle.report.proofs.hex.HexDisplay.fmt.Given as goal

-- the digits of the bytes before those that are left are written
abbrev pub invariant-loop-part : goal.invariant-loop-part
invariant-loop-part g l = (chunks_size l.part-iterator ≡ 64) × (IsPlainFormatter l.initial.f → (done : List ℕ) × (done ++ chunks_rest l.part-iterator ≡ l.self.0.now) × HasWritten g.W.Write.write_str_gives l.initial.f (hex done) l.f)
