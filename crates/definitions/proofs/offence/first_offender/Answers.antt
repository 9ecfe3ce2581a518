use Rattle.std.proofs.Common.{sym, arith}
use Rattle.rules.proofs.First.{bad_more, bad_at}
use Rattle.definitions.specs.Tallied.{keeps}
use Rattle.definitions.proofs.offence.first_offender.Goals as goal

pub variables-preserved : goal.variables-preserved
variables-preserved c =
    bad_more (keeps c.args.tally.now c.args.inputs c.args.outputs) c.variables.x c.variables.invariant (sym c.if-not-is_kept.ensures)

pub returns-then-not-is_kept : goal.returns-then-not-is_kept
returns-then-not-is_kept c =
    record {
      value = sym (bad_at (keeps c.args.tally.now c.args.inputs c.args.outputs) c.variables.x c.args.variables (omega arith) c.variables.invariant (sym c.if-not-is_kept.ensures));
      below = omega arith;
    }
