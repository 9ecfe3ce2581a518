-- A call as it stands in the words of a table.
use Rattle.std.specs.Prelude.{ℕ, ◌+◌, List, None}
use Rattle.table.specs.Access.{operands_at, gives_at}
use Rattle.table.specs.Syntax.{Equation, call, node_at}
use Rattle.table.specs.Decoding.{table_of}

-- the call of node g whose operands stand from a place on, with the gives behind them; no clock depends on what restarts it
abbrev pub call_at : List ℕ → ℕ → ℕ → Equation
call_at ws g at =
    call g None (operands_at ws at (node_at (table_of ws) g).inputs) (gives_at ws (at + (node_at (table_of ws) g).inputs) (node_at (table_of ws) g).outputs)
