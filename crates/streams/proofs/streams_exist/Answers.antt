use Rattle.streams.proofs.Histories.{streams_exist}
use Rattle.streams.proofs.streams_exist.Goals as goal

pub returns : goal.returns
returns g c = streams_exist _
