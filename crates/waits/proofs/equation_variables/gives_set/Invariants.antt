use Rattle.table.specs.Access.{gives_at}
use Rattle.waits.specs.Members.{Holds}
use Rattle.waits.proofs.equation_variables.gives_set.Given as goal

abbrev pub invariant-gives : goal.invariant-gives
invariant-gives l = Holds l.set (gives_at l.words l.at l.i)
