use Rattle.realization.proofs.Tower.{blocks_realize}
use Rattle.realization.proofs.blocks_realize_machines.Goals as goal

pub returns : goal.returns
returns g c = blocks_realize _ g.met.S.OperatorSet.lawful
