use Rattle.std.proofs.Common.{refl}
use Rattle.waits.proofs.Sets.{holds_union}
use Rattle.waits.proofs.variable_set.VariableSet.union.Goals as goal

pub returns : goal.returns
returns c = λ l m h k. holds_union c.args.self c.args.other _ l m refl h k
