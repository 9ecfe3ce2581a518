-- How large an admitted table is.
use Rattle.std.specs.Prelude.{◌-◌, length, Some, None, Ok, Err, Option, Result, slice_index}
use Rattle.table.specs.Syntax.{Table}
use Rattle.schedule.specs.Need.{needs}
use Rattle.drawing.specs.declared.verdict.Extent.{Extent}

-- its nodes, and what an instance of main needs, which is the last of them
abbrev pub extent_of : Table → Extent
extent_of T = record { nodes = length T; need = slice_index (needs T) (length T - 1) }

-- the extent of a table that is not at fault
abbrev pub extent_unless : {F : Type 0} → Option F → Table → Result Extent F
extent_unless None T = Ok (extent_of T)
extent_unless (Some f) T = Err f
