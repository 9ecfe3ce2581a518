use Rattle.std.proofs.Common.{◌≡◌, ◌+◌, ◌-◌, length, get_or, drop}
use Rattle.execution.specs.Cells.{copied_out}
use Rattle.execution.specs.Words.{gives_in, program}
use Rattle.execution.specs.Sound.{gives_fine}
use Rattle.runner.proofs.Copying.{Copying}
use Rattle.runner.proofs.copies.copy_out.Given as goal

abbrev pub invariant-gives : goal.invariant-gives
invariant-gives g l =
    (l.w ≡ get_or l.words (l.p + l.i) 0)
    × Copying copied_out gives_fine l.initial.cells l.cells l.at l.i (gives_in (drop l.p (program l.words))) (gives_in (drop (l.p + l.i) (program l.words)))

abbrev pub decreases-gives : goal.decreases-gives
decreases-gives g l = length l.words - l.i
