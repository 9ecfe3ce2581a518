use Rattle.std.proofs.Common.{arith}
use Rattle.table.specs.Decoding.{table_of}
use Rattle.blocks.proofs.Measured.{measured_more}
use Rattle.blocks.proofs.lengths.measure.Goals as goal

pub nodes-preserved : goal.nodes-preserved
nodes-preserved c =
    measured_more (table_of c.args.words.now) c.nodes.k c.nodes.resets c.nodes.steps c.nodes.next
    c.block_length-next.result c.block_length-next-in-nodes.result (omega (arith, c.requires.described.spells.outlines.nodes, c.requires.described.spells.keeps.count.1)) c.nodes.invariant
    c.block_length-next.ensures.value c.block_length-next.ensures.small c.block_length-next-in-nodes.ensures.value c.block_length-next-in-nodes.ensures.small
