use Rattle.std.proofs.Common.{◌≡◌, None}
use Rattle.rules.specs.First.{first_bad}
use Rattle.rules.specs.Types.{variable_typed}
use Rattle.table.specs.Decoding.{table_of}
use Rattle.table.specs.Syntax.{node_at}
use Rattle.types.proofs.nodes.first_untyped_variable.Given as goal

abbrev pub invariant-variables : goal.invariant-variables
invariant-variables g l = first_bad (variable_typed g.S.OperatorSet.meaning (node_at (table_of l.words) l.k)) l.x ≡ None
