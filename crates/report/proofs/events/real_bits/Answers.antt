use Rattle.std.proofs.Common.{◌≡◌, ℕ, true, sym, refl, ◌∙◌, arith}
use lib.Ieee.{Float, nan, inf, fin, is_nan, to_bits, binary64}
use Rattle.report.proofs.events.real_bits.Goals as goal

bits-nan : (x : Float) → is_nan x ≡ true → 9221120237041090560 ≡ to_bits binary64 x
unfolding is_nan to_bits
bits-nan nan is = refl
bits-nan (inf s) is = absurd (let z : ◌≡◌ {A = ℕ} 0 1 = cc in omega arith)
bits-nan (fin s m e) is = absurd (let z : ◌≡◌ {A = ℕ} 0 1 = cc in omega arith)

pub returns-then-is_nan : goal.returns-then-is_nan
returns-then-is_nan c = bits-nan c.args.x (sym c.is_nan.ensures.value ∙ c.if-is_nan.true)
