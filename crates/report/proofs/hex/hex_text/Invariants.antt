use Rattle.std.proofs.Common.{◌≡◌, ◌*◌, take}
use Rattle.report.specs.Hex.{hex}
use Rattle.report.proofs.hex.hex_text.Given as goal

-- the digits of the bytes before this one are written
abbrev pub invariant-loop-i : goal.invariant-loop-i
invariant-loop-i l = take (2 * l.i) l.block ≡ hex (take l.i l.bytes)
