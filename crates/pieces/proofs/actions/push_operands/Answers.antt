use Rattle.std.proofs.Common.{◌+◌, get_or, arith}
use Rattle.pieces.proofs.Adding.{adds_as, adds_join}
use Rattle.pieces.proofs.Called.{operand_words, operand_words_length}
use Rattle.pieces.proofs.Fits.{operand_in_fits}
use Rattle.pieces.proofs.actions.push_operands.Goals as goal

pub push-requires : goal.push-requires
push-requires c =
    record {
      fits = operand_in_fits (get_or c.args.words.now (c.args.at + c.operands.i) 0) c.operand_at.result c.operand_at.ensures;
      room = omega (arith, c.requires.room, c.requires.few, c.operands.invariant.count, operand_words_length c.args.words.now c.args.at c.operands.i);
    }

pub operands-preserved : goal.operands-preserved
operands-preserved c =
    adds_as _ _ (operand_words c.args.words.now c.args.at c.operands.i c.operand_at.result c.operand_at.ensures)
    (adds_join c.operands.invariant c.push.ensures)
