-- What reading a table answers, in numbers.
use Rattle.std.specs.Prelude.{ℕ, cond, ◌||◌, List, length, Ok, Err, ◌==◌, nat_lt, slice_set}
use Rattle.reader.specs.declared.faults.Layer.{Layer}
use Rattle.reader.specs.declared.faults.Layer.TheVariants.{Reading, Rules, Order, Size}
use Rattle.reader.specs.declared.faults.Report.{Report}
use Rattle.reader.specs.Faults.{report_of}
use Rattle.reader.specs.Whole.{Read, scan_of}
use Rattle.capi.specs.declared.answer.Answer.{Answer}

abbrev pub layer_number : Layer → ℕ
layer_number Reading = 1
layer_number Rules = 2
layer_number Order = 3
layer_number Size = 4

abbrev pub refused : Report → Answer
refused r = record { number = r.number; nodes = 0; layer = layer_number r.layer; node = r.node; place = r.place }

-- what was read: the table's nodes, or the fault
abbrev pub answered : Read → Answer
answered (Ok o) = record { number = 0; nodes = o.nodes; layer = 0; node = 0; place = 0 }
answered (Err f) = refused (report_of f)

-- no set of this number
abbrev pub unknown : Answer
unknown = record { number = 255; nodes = 0; layer = 0; node = 0; place = 0 }

-- the words, read as a table for the set of a number: 1 is that of the integers, 2 that of the doubles
abbrev pub answer_to : ℕ → List ℕ → Answer
answer_to own words = cond (own == 1 || own == 2) (answered (scan_of own words)) unknown

-- a report of four words and more has nodes, layer, node and place in front; a shorter one is left alone
abbrev pub written : List ℕ → Answer → List ℕ
written report a =
    cond (nat_lt (length report) 4) report
    (slice_set (slice_set (slice_set (slice_set report 0 a.nodes) 1 a.layer) 2 a.node) 3 a.place)
