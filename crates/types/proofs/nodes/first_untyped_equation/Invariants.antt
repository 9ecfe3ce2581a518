use Rattle.std.proofs.Common.{◌≡◌, take, None}
use Rattle.rules.specs.First.{first_bad}
use Rattle.rules.specs.Types.{equation_typed}
use Rattle.table.specs.Decoding.{table_of}
use Rattle.table.specs.Syntax.{equation_at, node_at}
use Rattle.types.proofs.nodes.first_untyped_equation.Given as goal

abbrev pub invariant-equations : goal.invariant-equations
invariant-equations g l =
    let T = table_of l.words in
    first_bad (λ e. equation_typed g.S.OperatorSet.meaning (take l.k T) (node_at T l.k) (equation_at (node_at T l.k) e)) l.e ≡ None
