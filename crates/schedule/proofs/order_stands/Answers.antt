use Rattle.schedule.proofs.Meant.{order_stands}
use Rattle.schedule.proofs.Same.{order_same}
use Rattle.schedule.proofs.Unique.{order_exists, order_unique}
use Rattle.schedule.proofs.order_stands.Goals as goal

pub returns : goal.returns
returns c = record { meant = order_stands; unique = order_unique; exists = order_exists; same = order_same }
