use Rattle.table.specs.Decoding.{table_of}
use Rattle.table.specs.Syntax.{node_at}
use Rattle.types.proofs.Called.{OperandsFrom}
use Rattle.types.proofs.calls.operands_have.Given as goal

-- the operands that are left suit exactly where all do
abbrev pub invariant-inputs : goal.invariant-inputs
invariant-inputs g l =
    let T = table_of l.words in
    OperandsFrom g.S.OperatorSet.meaning (node_at T l.k) (node_at T l.g) l.words l.at (node_at T l.g).inputs l.i
