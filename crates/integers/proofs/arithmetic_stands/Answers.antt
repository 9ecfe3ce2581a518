use Rattle.integers.proofs.Stand.{arithmetic_stands}
use Rattle.integers.proofs.arithmetic_stands.Goals as goal

pub returns : goal.returns
returns c = arithmetic_stands
