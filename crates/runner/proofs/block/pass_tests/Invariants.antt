use Rattle.std.proofs.Common.{◌≡◌, ◌-◌, ◌<◌, ◌≤◌, true, length, get_or}
use Rattle.words.specs.Bits.{kind_of}
use Rattle.runner.specs.From.{fine_from, run_from}
use Rattle.runner.proofs.block.pass_tests.Given as goal

abbrev pub invariant-tests : goal.invariant-tests
invariant-tests g l =
    (l.start ≤ l.p) × (l.p < length l.words) × (l.w ≡ get_or l.words l.p 0) × (fine_from l.words l.k l.p ≡ true) × (kind_of l.w ≡ 4)
    × (run_from g.S.OperatorSet.meaning l.words l.k l.start l.cells ≡ run_from g.S.OperatorSet.meaning l.words l.k l.p l.cells)

abbrev pub decreases-tests : goal.decreases-tests
decreases-tests g l = length l.words - l.p
