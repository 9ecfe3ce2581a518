use Rattle.std.proofs.Common.{◌≡◌}
use Rattle.calls.specs.Calls.{defaulted}
use Rattle.run.proofs.inputs.give_defaults.Given as goal

abbrev pub invariant-inputs : goal.invariant-inputs
invariant-inputs g l = l.cells ≡ defaulted g.S.OperatorSet.meaning l.words l.offered l.i l.initial.cells
