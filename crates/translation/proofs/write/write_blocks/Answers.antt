use Rattle.std.proofs.Common.{◌≡◌, ◌<◌, length, sym, ap, arith}
use Rattle.table.specs.Decoding.{table_of}
use Rattle.code.specs.Code.{blocks}
use Rattle.blocks.proofs.Measured.{block_within, blocks_more}
use Rattle.translation.proofs.Laid.{wrote_as, wrote_join, wrote_none}
use Rattle.translation.proofs.write.write_blocks.Goals as goal

pub nodes-init : goal.nodes-init
nodes-init c = wrote_none c.args.at c.args.buffer.now

-- both blocks end within those of all nodes
pub write_block-next-requires : goal.write_block-next-requires
write_block-next-requires c =
    let T = table_of c.args.words.now in
    let k = c.nodes.k in
    let h : k < length T = omega (arith, c.requires.planned.described.spells.outlines.nodes) in
    record {
      planned = c.requires.planned;
      node = h;
      offsets = c.segment_offsets-offsets.ensures;
      room = omega (arith, c.nodes.invariant.place, block_within T k h, c.requires.room, c.nodes.auto.buffer);
    }

pub write_block-next-requires-in-nodes : goal.write_block-next-requires-in-nodes
write_block-next-requires-in-nodes c =
    let T = table_of c.args.words.now in
    let k = c.nodes.k in
    let h : k < length T = omega (arith, c.requires.planned.described.spells.outlines.nodes) in
    record {
      planned = c.requires.planned;
      node = h;
      offsets = c.segment_offsets-offsets.ensures;
      room = omega (arith, c.nodes.invariant.place, c.write_block-next.ensures.place, block_within T k h, c.requires.room, c.nodes.auto.buffer);
    }

pub nodes-preserved : goal.nodes-preserved
nodes-preserved c =
    let T = table_of c.args.words.now in
    let k = c.nodes.k in
    let h : k < length T = omega (arith, c.requires.planned.described.spells.outlines.nodes) in
    let w = block_within T k h in
    let two = wrote_join c.write_block-next.ensures c.write_block-next-in-nodes.ensures
    (omega (arith, c.nodes.invariant.place, w, c.requires.room, c.nodes.auto.buffer)) in
    wrote_as (sym (blocks_more T k)) (wrote_join c.nodes.invariant two (omega (arith, w, c.requires.room)))

pub returns : goal.returns
returns c =
    let T = table_of c.args.words.now in
    let all : c.nodes.k ≡ length T = omega (arith, c.requires.planned.described.spells.outlines.nodes) in
    wrote_as (ap (blocks T) all) c.nodes.invariant
