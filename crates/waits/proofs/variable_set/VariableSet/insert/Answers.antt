use Rattle.std.proofs.Common.{refl}
use Rattle.waits.proofs.Sets.{holds_insert}
use Rattle.waits.proofs.variable_set.VariableSet.insert.Goals as goal

pub returns : goal.returns
returns c = λ l h. holds_insert c.args.self.now _ l c.args.x c.requires refl h
