use Rattle.std.proofs.Common.{◌≡◌, ◌+◌, ◌-◌}
use Rattle.table.specs.Access.{operands_at}
use Rattle.table.specs.Syntax.{node_at}
use Rattle.table.specs.Decoding.{table_of}
use Rattle.rules.specs.Clocks.{operands_on}
use Rattle.clocks.proofs.operands.operands_on.Given as goal

-- the rest decides
abbrev pub invariant-operands : goal.invariant-operands
invariant-operands l =
    operands_on (node_at (table_of l.words) l.k) l.clock (operands_at l.words (l.at + l.i) (l.count - l.i))
    ≡ operands_on (node_at (table_of l.words) l.k) l.clock (operands_at l.words l.at l.count)
