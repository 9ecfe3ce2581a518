use Rattle.std.proofs.Common.{◌≡◌, None}
use Rattle.rules.specs.First.{first_bad}
use Rattle.definitions.specs.Tallied.{keeps}
use Rattle.definitions.proofs.offence.first_offender.Given as goal

abbrev pub invariant-variables : goal.invariant-variables
invariant-variables l = first_bad (keeps l.tally l.inputs l.outputs) l.x ≡ None
