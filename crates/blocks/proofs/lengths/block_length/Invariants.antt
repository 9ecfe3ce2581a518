use Rattle.std.proofs.Common.{◌≡◌, ◌*◌, ◌≤◌, length}
use Rattle.table.specs.Decoding.{table_of}
use Rattle.blocks.specs.Numbered.{block_piece, up_to}
use Rattle.blocks.proofs.lengths.block_length.Given as goal

abbrev pub invariant-pieces : goal.invariant-pieces
invariant-pieces l = (l.found ≡ length (up_to (block_piece (table_of l.words) l.k l.block) l.j)) × (l.found ≤ 255 * l.j)
