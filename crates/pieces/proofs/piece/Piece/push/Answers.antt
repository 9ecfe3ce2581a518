use Rattle.std.proofs.Common.{arith}
use Rattle.pieces.proofs.Adding.{adds_word}
use Rattle.pieces.proofs.piece.Piece.push.Goals as goal

pub returns : goal.returns
returns c = adds_word c.args.self.now c.args.word c.encode.result (omega arith) c.encode.ensures
