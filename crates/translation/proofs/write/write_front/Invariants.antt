use Rattle.std.proofs.Common.{get_or}
use Rattle.words.specs.Bits.{field}
use Rattle.table.specs.Decoding.{table_of}
use Rattle.blocks.specs.Numbered.{up_to}
use Rattle.front.specs.Fronted.{front_piece}
use Rattle.translation.specs.Writing.{Wrote}
use Rattle.translation.proofs.write.write_front.Given as goal

abbrev pub invariant-pieces : goal.invariant-pieces
invariant-pieces l = Wrote 0 (up_to (front_piece (field (get_or l.words 0 0) 0 8) (table_of l.words)) l.j) l.initial.buffer l.next l.buffer
