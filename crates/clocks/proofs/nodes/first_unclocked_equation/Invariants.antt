use Rattle.std.proofs.Common.{◌≡◌, None}
use Rattle.table.specs.Syntax.{equation_at, node_at}
use Rattle.table.specs.Decoding.{table_of}
use Rattle.rules.specs.Clocks.{equation_clocked}
use Rattle.rules.specs.First.{first_bad}
use Rattle.clocks.proofs.nodes.first_unclocked_equation.Given as goal

abbrev pub invariant-equations : goal.invariant-equations
invariant-equations l =
    first_bad (λ e. equation_clocked (node_at (table_of l.words) l.k) (equation_at (node_at (table_of l.words) l.k) e)) l.e ≡ None
