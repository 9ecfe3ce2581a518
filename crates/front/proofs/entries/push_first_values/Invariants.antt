use Rattle.table.specs.Decoding.{table_of}
use Rattle.code.specs.Code.{first_values, main_of}
use Rattle.pieces.specs.Holding.{Adds}
use Rattle.front.proofs.entries.push_first_values.Given as goal

abbrev pub invariant-inputs : goal.invariant-inputs
invariant-inputs l = Adds l.initial.piece l.piece (first_values (main_of (table_of l.words)) l.x)
