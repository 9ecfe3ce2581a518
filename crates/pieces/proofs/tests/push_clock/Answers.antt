use Rattle.std.proofs.Common.{arith}
use Rattle.pieces.proofs.Fits.{clock_fits}
use Rattle.pieces.proofs.tests.push_clock.Goals as goal

pub push_tests-requires : goal.push_tests-requires
push_tests-requires c =
    record {
      described = c.requires.described;
      fits = clock_fits c.args.words.now c.args.outline.now c.requires.described c.args.k c.args.x c.variable-clock.result c.variable-clock.ensures;
      room = omega (arith, c.requires.room);
      near = omega (arith, c.requires.near);
    }
