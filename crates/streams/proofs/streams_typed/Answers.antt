use Rattle.streams.proofs.Typed.{streams_typed}
use Rattle.streams.proofs.streams_typed.Goals as goal

pub returns : goal.returns
returns g c = streams_typed _ g.met.S.OperatorSet.lawful
