-- Where the segments of a node's calls begin.
use Rattle.std.specs.Prelude.{◌≡◌, ℕ, ◌<◌, List, slice_index}
use Rattle.table.specs.Syntax.{Table, node_at, equation_count}
use Rattle.schedule.specs.Need.{needs}
use Rattle.code.specs.Statements.{offset}

-- of each equation of node k
abbrev pub OffsetsOf : Table → ℕ → List ℕ → Type 0
OffsetsOf T k os = (e : ℕ) → e < equation_count (node_at T k) → slice_index os e ≡ offset (needs T) (node_at T k) e
