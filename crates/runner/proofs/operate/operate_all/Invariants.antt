use Rattle.std.proofs.Common.{◌≡◌, ◌-◌, ◌<◌, ◌≤◌, true, length, get_or}
use Rattle.runner.specs.From.{fine_from, run_from}
use Rattle.runner.proofs.operate.operate_all.Given as goal

abbrev pub invariant-operators : goal.invariant-operators
invariant-operators g l =
    (l.start ≤ l.p) × (l.p < length l.words) × (l.w ≡ get_or l.words l.p 0) × (fine_from l.words l.k l.p ≡ true)
    × (run_from g.S.OperatorSet.meaning l.words l.k l.start l.initial.cells ≡ run_from g.S.OperatorSet.meaning l.words l.k l.p l.cells)

abbrev pub decreases-operators : goal.decreases-operators
decreases-operators g l = length l.words - l.p
