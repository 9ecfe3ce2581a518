use Rattle.std.proofs.Common.{◌≡◌, ℕ, ◌<◌, length, get_or}
use Rattle.table.specs.Decoding.{table_of}
use Rattle.table.specs.Syntax.{node_at}
use Rattle.schedule.specs.Need.{needs}
use Rattle.code.specs.Statements.{offset}
use Rattle.blocks.proofs.segments.segment_offsets.Given as goal

abbrev pub invariant-equations : goal.invariant-equations
invariant-equations l =
    (l.next ≡ offset (needs (table_of l.words)) (node_at (table_of l.words) l.k) l.e)
    × ((i : ℕ) → i < l.e → get_or l.offsets i 0 ≡ offset (needs (table_of l.words)) (node_at (table_of l.words) l.k) i)
    × (length l.offsets ≡ 64)
