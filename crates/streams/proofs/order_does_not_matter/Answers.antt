use Rattle.streams.proofs.Orders.{order_free}
use Rattle.streams.proofs.order_does_not_matter.Goals as goal

pub returns : goal.returns
returns g c = order_free _
