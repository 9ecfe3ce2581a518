use Rattle.doubles.proofs.Stand.{arithmetic_stands}
use Rattle.doubles.proofs.arithmetic_stands.Goals as goal

pub returns : goal.returns
returns c = arithmetic_stands
