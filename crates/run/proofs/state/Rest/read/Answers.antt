use Rattle.realization.proofs.Tower.{blocks_realize}
use Rattle.calls.proofs.Whole.{promise_stands}
use Rattle.run.proofs.state.Rest.read.Goals as goal

pub returns : goal.returns
returns g c = record {
  answer = c.tested_reading.ensures;
  promise = promise_stands _ g.met.S.OperatorSet.lawful (blocks_realize _ g.met.S.OperatorSet.lawful) g.S.OperatorSet.numbered c.args.code.now.words.now;
}
