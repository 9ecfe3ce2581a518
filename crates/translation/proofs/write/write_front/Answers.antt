use Rattle.std.proofs.Common.{◌≡◌, ◌+◌, length, get_or, sym, ap, ◌∙◌, arith}
use Rattle.words.specs.Bits.{field}
use Rattle.table.specs.Decoding.{table_of}
use Rattle.blocks.specs.Numbered.{up_to}
use Rattle.blocks.proofs.Runs.{run_more, run_none, run_within}
use Rattle.front.specs.Fronted.{front_piece}
use Rattle.front.proofs.Fronts.{front_length_lem, front_pieces}
use Rattle.translation.proofs.Laid.{piece_whole, wrote_as, wrote_join, wrote_none, wrote_piece}
use Rattle.translation.proofs.write.write_front.Goals as goal

pub pieces-init : goal.pieces-init
pieces-init c =
    let ws = c.args.words.now in
    wrote_as (sym (run_none (front_piece (field (get_or ws 0 0) 0 8) (table_of ws)))) (wrote_none 0 c.args.buffer.now)

-- the piece ends within the front
pub write_piece-next-requires : goal.write_piece-next-requires
write_piece-next-requires c =
    let ws = c.args.words.now in
    let T = table_of ws in
    let own = field (get_or ws 0 0) 0 8 in
    let f = front_piece own T in
    let within = run_within f c.pieces.j (1 + (length T + 1)) (omega (arith, c.requires.planned.described.spells.outlines.nodes)) in
    record {
      whole = piece_whole c.front_piece-piece.result (f c.pieces.j) c.front_piece-piece.ensures;
      room = omega (arith, c.pieces.invariant.place, c.front_piece-piece.ensures.count, within, ap length (front_pieces T own), front_length_lem own T, c.requires.room, c.pieces.auto.buffer);
    }

pub pieces-preserved : goal.pieces-preserved
pieces-preserved c =
    let ws = c.args.words.now in
    let T = table_of ws in
    let own = field (get_or ws 0 0) 0 8 in
    let j = c.pieces.j in
    let f = front_piece own T in
    let within = run_within f j (1 + (length T + 1)) (omega (arith, c.requires.planned.described.spells.outlines.nodes)) in
    let added = wrote_piece c.pieces.next c.pieces.buffer c.write_piece-next.result c.write_piece-next.new.buffer
    c.front_piece-piece.ensures c.write_piece-next.ensures.place c.write_piece-next.ensures.stands in
    wrote_as (sym (run_more f j)) (wrote_join c.pieces.invariant added (omega (arith, within, ap length (front_pieces T own), front_length_lem own T, c.requires.room)))

pub returns : goal.returns
returns c =
    let ws = c.args.words.now in
    let T = table_of ws in
    let own = field (get_or ws 0 0) 0 8 in
    let all : c.pieces.j ≡ 1 + (length T + 1) = omega (arith, c.requires.planned.described.spells.outlines.nodes) in
    wrote_as (ap (up_to (front_piece own T)) all ∙ front_pieces T own) c.pieces.invariant
