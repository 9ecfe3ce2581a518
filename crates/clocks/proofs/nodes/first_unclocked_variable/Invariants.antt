use Rattle.std.proofs.Common.{◌≡◌, None}
use Rattle.table.specs.Syntax.{node_at}
use Rattle.table.specs.Decoding.{table_of}
use Rattle.rules.specs.Clocks.{variable_clocked}
use Rattle.rules.specs.First.{first_bad}
use Rattle.clocks.proofs.nodes.first_unclocked_variable.Given as goal

abbrev pub invariant-variables : goal.invariant-variables
invariant-variables l = first_bad (variable_clocked (node_at (table_of l.words) l.k)) l.x ≡ None
