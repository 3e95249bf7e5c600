use Rattle.std.proofs.Common.{◌≡◌, ◌++◌, length, vec_items}
use Rattle.std.specs.Option.{option_map}
use Rattle.report.specs.Hex.{from_hex}
use Rattle.report.proofs.hex.parse_hex.Given as goal

-- the bytes that are read, before those of the text that is left
abbrev pub invariant-loop-rest : goal.invariant-loop-rest
invariant-loop-rest l = option_map (λ bs. vec_items l.bytes ++ bs) (from_hex l.rest) ≡ from_hex l.text

abbrev pub decreases-loop-rest : goal.decreases-loop-rest
decreases-loop-rest l = length l.rest
