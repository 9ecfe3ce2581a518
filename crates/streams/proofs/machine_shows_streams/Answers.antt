use Rattle.streams.proofs.Histories.{machine_shows}
use Rattle.streams.proofs.machine_shows_streams.Goals as goal

pub returns : goal.returns
returns g c = machine_shows _
