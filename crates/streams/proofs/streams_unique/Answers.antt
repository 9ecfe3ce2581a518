use Rattle.streams.proofs.Histories.{streams_unique}
use Rattle.streams.proofs.streams_unique.Goals as goal

pub returns : goal.returns
returns g c = streams_unique _
