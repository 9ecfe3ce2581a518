use Rattle.std.proofs.Common.{◌≡◌, length, sym, ap, ◌∙◌, arith}
use Rattle.std.proofs.lemmas.List.{length-append}
use Rattle.table.specs.Decoding.{table_of}
use Rattle.table.specs.Syntax.{node_at}
use Rattle.waits.proofs.Small.{equations_few}
use Rattle.blocks.specs.Numbered.{block_piece, piece_count, up_to}
use Rattle.blocks.proofs.Blocked.{block_pieces, pieces_few}
use Rattle.blocks.proofs.Placed.{order_long}
use Rattle.blocks.proofs.Runs.{run_more, run_none}
use Rattle.blocks.proofs.lengths.block_length.Goals as goal

pub pieces-init : goal.pieces-init
pieces-init c = (sym (ap length (run_none (block_piece (table_of c.args.words.now) c.args.k c.args.block))), omega arith)

pub pieces-preserved : goal.pieces-preserved
pieces-preserved c =
    let f = block_piece (table_of c.args.words.now) c.args.k c.args.block in
    let j = c.pieces.j in (
      omega (arith, c.pieces.invariant.0, c.block_piece-piece.ensures.count, ap length (run_more f j), length-append (up_to f j) (f j)),
      omega (arith, c.pieces.invariant.1),
    )

pub returns : goal.returns
returns c =
    let ws = c.args.words.now in
    let T = table_of ws in
    let k = c.args.k in
    let b = c.args.block in
    let P = c.requires.planned in
    let all : c.pieces.j ≡ piece_count (node_at T k) b = omega (arith, c.piece_count-j-end.ensures) in
    let few = pieces_few (node_at T k) b (equations_few ws c.args.plan.now.outline P.described k c.requires.node) in
    record {
      value = c.pieces.invariant.0 ∙ ap (λ n. length (up_to (block_piece T k b) n)) all
          ∙ ap length (block_pieces T k (order_long ws c.args.plan.now P k c.requires.node) b);
      small = omega (arith, c.pieces.invariant.1, all, few);
    }
