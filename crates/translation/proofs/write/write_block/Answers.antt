use Rattle.std.proofs.Common.{◌≡◌, length, sym, ap, ◌∙◌, arith}
use Rattle.table.specs.Decoding.{table_of}
use Rattle.table.specs.Syntax.{node_at}
use Rattle.blocks.specs.Numbered.{block_piece, piece_count, up_to}
use Rattle.blocks.proofs.Blocked.{block_pieces}
use Rattle.blocks.proofs.Placed.{order_long}
use Rattle.blocks.proofs.Runs.{run_more, run_none, run_within}
use Rattle.translation.proofs.Laid.{piece_whole, wrote_as, wrote_join, wrote_none, wrote_piece}
use Rattle.translation.proofs.write.write_block.Goals as goal

pub pieces-init : goal.pieces-init
pieces-init c =
    wrote_as (sym (run_none (block_piece (table_of c.args.words.now) c.args.k c.args.block))) (wrote_none c.args.at c.args.buffer.now)

-- the piece ends within the block
pub write_piece-next-requires : goal.write_piece-next-requires
write_piece-next-requires c =
    let ws = c.args.words.now in
    let T = table_of ws in
    let k = c.args.k in
    let b = c.args.block in
    let f = block_piece T k b in
    let all = ap length (block_pieces T k (order_long ws c.args.plan.now c.requires.planned k c.requires.node) b) in
    let within = run_within f c.pieces.j (piece_count (node_at T k) b) (omega (arith, c.piece_count-j-end.ensures)) in
    record {
      whole = piece_whole c.block_piece-piece.result (f c.pieces.j) c.block_piece-piece.ensures;
      room = omega (arith, c.pieces.invariant.place, c.block_piece-piece.ensures.count, within, all, c.requires.room, c.pieces.auto.buffer);
    }

pub pieces-preserved : goal.pieces-preserved
pieces-preserved c =
    let ws = c.args.words.now in
    let T = table_of ws in
    let k = c.args.k in
    let b = c.args.block in
    let j = c.pieces.j in
    let f = block_piece T k b in
    let all = ap length (block_pieces T k (order_long ws c.args.plan.now c.requires.planned k c.requires.node) b) in
    let within = run_within f j (piece_count (node_at T k) b) (omega (arith, c.piece_count-j-end.ensures)) in
    let added = wrote_piece c.pieces.next c.pieces.buffer c.write_piece-next.result c.write_piece-next.new.buffer
    c.block_piece-piece.ensures c.write_piece-next.ensures.place c.write_piece-next.ensures.stands in
    wrote_as (sym (run_more f j)) (wrote_join c.pieces.invariant added (omega (arith, within, all, c.requires.room)))

pub returns : goal.returns
returns c =
    let ws = c.args.words.now in
    let T = table_of ws in
    let k = c.args.k in
    let b = c.args.block in
    let all : c.pieces.j ≡ piece_count (node_at T k) b = omega (arith, c.piece_count-j-end.ensures) in
    wrote_as (ap (up_to (block_piece T k b)) all ∙ block_pieces T k (order_long ws c.args.plan.now c.requires.planned k c.requires.node) b) c.pieces.invariant
