use Rattle.schedule.specs.Waits.{comes_before}
use Rattle.schedule.proofs.Placing.{Going}
use Rattle.schedule.proofs.order.order_of.Given as goal

abbrev pub invariant-loop : goal.invariant-loop
invariant-loop l = Going (comes_before l.waits.marks) l.n l.counter l.placed
