use Rattle.std.proofs.Common.{rules}
use Rattle.waits.proofs.Sets.{holds_meet}
use Rattle.waits.proofs.variable_set.VariableSet.meets.Goals as goal

pub returns : goal.returns
returns c = λ l m h k a. holds_meet c.args.self c.args.other l m (search rules) h k a
