-- The verdict on a table: the first fault, node by node.
use Rattle.std.specs.Prelude.{ℕ, zero, suc, cond, List, take, is_some, Some, None, Option, nat_le, slice_index}
use Rattle.std.specs.Option.{option_map}
use Rattle.opset.specs.Meaning.{Meaning}
use Rattle.reader.specs.declared.faults.Site.{Site}
use Rattle.table.specs.Syntax.{Table, node_at, equation_count}
use Rattle.table.specs.Spelling.{node_place}
use Rattle.rules.specs.First.{or_else}
use Rattle.rules.specs.Offences.{type_offence, clock_offence, definition_offence}
use Rattle.schedule.specs.Reads.{before}
use Rattle.schedule.specs.Found.{order_of}
use Rattle.schedule.specs.Need.{needs}
use Rattle.admission.specs.declared.faults.RuleFault.{RuleFault}
use Rattle.admission.specs.declared.faults.RuleFault.TheVariants.{Types, Clocks, Definitions}
use Rattle.admission.specs.declared.faults.OrderFault.{OrderFault}
use Rattle.admission.specs.declared.faults.OrderFault.TheVariants.{NoOrder}
use Rattle.admission.specs.declared.faults.SizeFault.{SizeFault}
use Rattle.admission.specs.declared.faults.SizeFault.TheVariants.{Need}
use Rattle.admission.specs.declared.faults.Fault.{Fault}
use Rattle.admission.specs.declared.faults.Fault.TheVariants.{Rules, Order, Size}

abbrev pub site : ℕ → ℕ → Site
site k place = record { node = k; place = place }

-- against types first, then clocks, then definitions
abbrev pub rule_fault : {V : Type 0} → Meaning V → Table → ℕ → Option RuleFault
rule_fault m T k =
    or_else (option_map (λ p. Types (site k p)) (type_offence m T k))
    (or_else (option_map (λ p. Clocks (site k p)) (clock_offence T k))
    (option_map (λ p. Definitions (site k p)) (definition_offence T k)))

-- the order of a node's equations, if there is one
abbrev pub node_order : Table → ℕ → Option (List ℕ)
node_order T k = order_of (before (node_at T k)) (equation_count (node_at T k))

abbrev pub order_fault : Table → ℕ → Option OrderFault
order_fault T k = cond (is_some (node_order T k)) None (Some (NoOrder (site k (node_place (take k T)))))

abbrev pub size_fault : Table → ℕ → Option SizeFault
size_fault T k = cond (nat_le (slice_index (needs T) k) 4096) None (Some (Need (site k (node_place (take k T)))))

-- the rules, then the order, then the need
abbrev pub node_fault : {V : Type 0} → Meaning V → Table → ℕ → Option Fault
node_fault m T k =
    or_else (option_map Rules (rule_fault m T k)) (or_else (option_map Order (order_fault T k)) (option_map Size (size_fault T k)))

-- the fault of the first of n nodes that has one
abbrev pub first_fault : {V : Type 0} → Meaning V → Table → ℕ → Option Fault
first_fault m T zero = None
first_fault m T (suc k) = or_else (first_fault m T k) (node_fault m T k)
