use Rattle.std.proofs.Common.{sym, ◌∙◌}
use Rattle.stream.proofs.Reals.{same_nan, same_bits}
use Rattle.stream.proofs.events.same_real.Goals as goal

pub returns-then-is_nan : goal.returns-then-is_nan
returns-then-is_nan c = same_nan c.args.a c.args.b c.is_nan-then-is_nan.result (sym c.is_nan.ensures.value ∙ c.if-is_nan.true) c.is_nan-then-is_nan.ensures.value

pub returns : goal.returns
returns c = same_bits c.args.a c.args.b c.well_formed.0.1 c.well_formed.1.0.1
