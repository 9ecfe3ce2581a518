use Rattle.table.specs.Decoding.{table_of}
use Rattle.admission.proofs.Progress.{Progress}
use Rattle.admission.proofs.whole.admit.Given as goal

abbrev pub invariant-nodes : goal.invariant-nodes
invariant-nodes g l = Progress g.S.OperatorSet.meaning (table_of l.words) l.k l.orders l.needs
