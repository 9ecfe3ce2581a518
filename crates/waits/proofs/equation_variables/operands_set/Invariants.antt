use Rattle.table.specs.Access.{operands_at}
use Rattle.schedule.specs.Reads.{operands_read}
use Rattle.waits.specs.Members.{Holds}
use Rattle.waits.proofs.equation_variables.operands_set.Given as goal

abbrev pub invariant-operands : goal.invariant-operands
invariant-operands l = Holds l.set (operands_read (operands_at l.words l.at l.i))
