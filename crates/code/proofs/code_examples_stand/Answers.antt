use Rattle.std.proofs.Common.{refl}
use Rattle.code.proofs.code_examples_stand.Goals as goal

pub returns : goal.returns
returns c = refl
