use Rattle.std.proofs.Common.{arith}
use Rattle.pieces.proofs.Adding.{adds_as, adds_join}
use Rattle.pieces.proofs.Called.{give_words, give_words_length}
use Rattle.pieces.proofs.actions.push_gives.Goals as goal

pub push-requires : goal.push-requires
push-requires c =
    record {
      fits = omega (arith, c.give_at.ensures);
      room = omega (arith, c.requires.room, c.requires.few, c.gives.invariant.count, give_words_length c.args.words.now c.args.at c.gives.i);
    }

pub gives-preserved : goal.gives-preserved
gives-preserved c =
    adds_as _ _ (give_words c.args.words.now c.args.at c.gives.i c.give_at.result c.give_at.ensures)
    (adds_join c.gives.invariant c.push.ensures)
