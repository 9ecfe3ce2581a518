use Rattle.std.proofs.Common.{◌≡◌, ◌+◌, ◌-◌}
use Rattle.table.specs.Access.{gives_at}
use Rattle.table.specs.Syntax.{node_at}
use Rattle.table.specs.Decoding.{table_of}
use Rattle.rules.specs.Clocks.{gives_on}
use Rattle.clocks.proofs.operands.gives_on.Given as goal

-- the rest decides
abbrev pub invariant-gives : goal.invariant-gives
invariant-gives l =
    gives_on (node_at (table_of l.words) l.k) l.clock (gives_at l.words (l.at + l.i) (l.count - l.i))
    ≡ gives_on (node_at (table_of l.words) l.k) l.clock (gives_at l.words l.at l.count)
