use Rattle.table.specs.Decoding.{table_of}
use Rattle.blocks.specs.Numbered.{block_piece, up_to}
use Rattle.translation.specs.Writing.{Wrote}
use Rattle.translation.proofs.write.write_block.Given as goal

abbrev pub invariant-pieces : goal.invariant-pieces
invariant-pieces l = Wrote l.at (up_to (block_piece (table_of l.words) l.k l.block) l.j) l.initial.buffer l.next l.buffer
