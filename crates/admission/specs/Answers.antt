-- A test's answer: that nothing is at fault, or the fault.
use Rattle.std.specs.Prelude.{◌≡◌, ℕ, ◌<◌, ◌≤◌, List, take, Some, None, Ok, Err, Option, Result}
use Rattle.table.specs.Syntax.{Table, node_at}
use Rattle.table.specs.Spelling.{node_place}
use Rattle.schedule.specs.declared.order.Order.{Order}
use Rattle.schedule.specs.Placed.{sequence}
use Rattle.schedule.specs.Need.{node_need}
use Rattle.admission.specs.declared.faults.OrderFault.{OrderFault}
use Rattle.admission.specs.declared.faults.OrderFault.TheVariants.{NoOrder}
use Rattle.admission.specs.declared.faults.SizeFault.{SizeFault}
use Rattle.admission.specs.declared.faults.SizeFault.TheVariants.{Need}
use Rattle.admission.specs.Verdict.{site, node_order}

abbrev pub kept_or : {F : Type 0} → Option F → Result Unit F
kept_or None = Ok tt
kept_or (Some f) = Err f

-- the order of node k, or that it has none
abbrev pub Ordered : Table → ℕ → Result Order OrderFault → Type 0
Ordered T k (Ok o) = node_order T k ≡ Some (sequence o)
Ordered T k (Err f) = (node_order T k ≡ None) × (f ≡ NoOrder (site k (node_place (take k T))))

-- the need of node k by those of the nodes before it, or that it is too much
abbrev pub Sized : Table → ℕ → List ℕ → Result ℕ SizeFault → Type 0
Sized T k ns (Ok n) = (n ≡ node_need ns (node_at T k)) × (n ≤ 4096)
Sized T k ns (Err f) = (4096 < node_need ns (node_at T k)) × (f ≡ Need (site k (node_place (take k T))))
