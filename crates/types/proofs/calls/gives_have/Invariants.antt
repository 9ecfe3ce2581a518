use Rattle.table.specs.Decoding.{table_of}
use Rattle.table.specs.Syntax.{node_at}
use Rattle.types.proofs.Called.{GivesFrom}
use Rattle.types.proofs.calls.gives_have.Given as goal

-- the gives that are left suit exactly where all do
abbrev pub invariant-outputs : goal.invariant-outputs
invariant-outputs g l =
    let T = table_of l.words in
    GivesFrom g.S.OperatorSet.meaning (node_at T l.k) (node_at T l.g) l.words l.at (node_at T l.g).outputs (node_at T l.g).inputs l.i
