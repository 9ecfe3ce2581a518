use Rattle.realization.proofs.Tower.{blocks_realize}
use Rattle.calls.proofs.Whole.{promise_stands}
use Rattle.calls.proofs.promise_stands.Goals as goal

pub returns : goal.returns
returns g c = promise_stands _ g.met.S.OperatorSet.lawful (blocks_realize _ g.met.S.OperatorSet.lawful)
