use Rattle.std.proofs.Common.{◌+◌, ◌-◌, length, drop}
use Rattle.execution.specs.Cells.{copied_in}
use Rattle.execution.specs.Words.{operands_in, program}
use Rattle.execution.specs.Sound.{operands_fine}
use Rattle.runner.proofs.Copying.{Copying}
use Rattle.runner.proofs.copies.copy_in.Given as goal

abbrev pub invariant-operands : goal.invariant-operands
invariant-operands g l =
    Copying (copied_in g.S.OperatorSet.meaning) operands_fine l.initial.cells l.cells l.at l.i
    (operands_in (drop l.p (program l.words))) (operands_in (drop (l.p + l.i) (program l.words)))

abbrev pub decreases-operands : goal.decreases-operands
decreases-operands g l = length l.words - l.i
