-- What admitting a table comes to.
use Rattle.std.specs.Prelude.{◌≡◌, ℕ, ◌<◌, List, [], length, Some, None, Ok, Err, Option, Result, slice_index, slice_index_or}
use Rattle.opset.specs.Meaning.{Meaning}
use Rattle.reader.specs.Whole.{Read, scan_of}
use Rattle.table.specs.Syntax.{Table}
use Rattle.table.specs.Decoding.{table_of}
use Rattle.schedule.specs.declared.order.Order.{Order}
use Rattle.schedule.specs.Placed.{sequence}
use Rattle.schedule.specs.Need.{needs}
use Rattle.admission.specs.declared.faults.Fault.{Fault}
use Rattle.admission.specs.declared.faults.Fault.TheVariants.{Reading}
use Rattle.admission.specs.declared.found.Plan.{Plan}
use Rattle.admission.specs.Verdict.{first_fault, node_order}

abbrev pub no_places : Order
no_places = record { places = []; count = 0 }

-- a plan has each node's order and need
pub record Plans (T : Table) (p : Plan) : Type 0 where
  pub orders : (k : ℕ) → k < length T → node_order T k ≡ Some (sequence (slice_index_or p.orders k no_places))
  pub needs : (k : ℕ) → k < length T → slice_index p.needs k ≡ slice_index (needs T) k

-- a table that reads is admitted with its plan where no node is at fault, and else refused by the first fault
abbrev pub JudgedTable : {V : Type 0} → Meaning V → Table → Option Fault → Result Plan Fault → Type 0
JudgedTable m T None (Ok p) = Plans T p
JudgedTable m T None (Err f) = ⊥
JudgedTable m T (Some g) (Ok p) = ⊥
JudgedTable m T (Some g) (Err f) = f ≡ g

abbrev pub JudgedBy : {V : Type 0} → Meaning V → List ℕ → Read → Result Plan Fault → Type 0
JudgedBy m ws (Err f) r = r ≡ Err (Reading f)
JudgedBy m ws (Ok o) r = JudgedTable m (table_of ws) (first_fault m (table_of ws) (length (table_of ws))) r

abbrev pub Judged : {V : Type 0} → Meaning V → ℕ → List ℕ → Result Plan Fault → Type 0
Judged m own ws r = JudgedBy m ws (scan_of own ws) r

-- why words are not admitted, if they are not: they do not read, or a node of the table that they spell is at fault
abbrev pub fault_by : {V : Type 0} → Meaning V → Table → Read → Option Fault
fault_by m T (Err f) = Some (Reading f)
fault_by m T (Ok o) = first_fault m T (length T)

abbrev pub fault_for : {V : Type 0} → Meaning V → ℕ → List ℕ → Option Fault
fault_for m own ws = fault_by m (table_of ws) (scan_of own ws)
