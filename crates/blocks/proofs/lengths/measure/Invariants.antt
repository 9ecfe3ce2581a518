use Rattle.table.specs.Decoding.{table_of}
use Rattle.blocks.proofs.Measured.{Measured}
use Rattle.blocks.proofs.lengths.measure.Given as goal

abbrev pub invariant-nodes : goal.invariant-nodes
invariant-nodes l = Measured (table_of l.words) l.k l.resets l.steps l.next
