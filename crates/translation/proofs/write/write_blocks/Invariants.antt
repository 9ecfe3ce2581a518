use Rattle.table.specs.Decoding.{table_of}
use Rattle.code.specs.Code.{blocks}
use Rattle.translation.specs.Writing.{Wrote}
use Rattle.translation.proofs.write.write_blocks.Given as goal

abbrev pub invariant-nodes : goal.invariant-nodes
invariant-nodes l = Wrote l.at (blocks (table_of l.words) l.k) l.initial.buffer l.next l.buffer
