use Rattle.std.proofs.Common.{◌≡◌, ◌-◌, ◌<◌, true, length}
use Rattle.runner.specs.From.{fine_from, run_from}
use Rattle.runner.proofs.block.+run_block.Given as goal

abbrev pub decreases-run_block : goal.decreases-run_block
decreases-run_block g l = l.k

abbrev pub invariant-instructions : goal.invariant-instructions
invariant-instructions g l =
    (l.p < length l.words) × (fine_from l.words l.k l.p ≡ true)
    × (run_from g.S.OperatorSet.meaning l.words l.k l.start l.initial.cells ≡ run_from g.S.OperatorSet.meaning l.words l.k l.p l.cells)

abbrev pub decreases-instructions : goal.decreases-instructions
decreases-instructions g l = length l.words - l.p
