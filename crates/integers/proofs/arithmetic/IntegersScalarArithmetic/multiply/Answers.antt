use Rattle.std.proofs.Common.{◌*ℤ◌, ◌∙◌, w32}
use Rattle.std.proofs.lemmas.Int.{wrapping_mul_is}
use Rattle.integers.proofs.Wraps.{wrap_is}
use Rattle.integers.proofs.arithmetic.IntegersScalarArithmetic.multiply.Goals as goal

pub returns : goal.returns
returns c = wrapping_mul_is w32 c.args.x c.args.y c.ranges.x c.ranges.y ∙ wrap_is (c.args.x *ℤ c.args.y)
