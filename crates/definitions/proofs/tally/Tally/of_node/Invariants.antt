use Rattle.std.proofs.Common.{ℕ, ◌*◌, ◌<◌, ◌≤◌, take}
use Rattle.table.specs.Decoding.{table_of}
use Rattle.table.specs.Syntax.{node_at}
use Rattle.definitions.specs.Tallied.{count_of, Tallies}
use Rattle.definitions.proofs.tally.Tally.of_node.Given as goal

abbrev pub invariant-equations : goal.invariant-equations
invariant-equations l =
    Tallies l.tally (take l.e (node_at (table_of l.words) l.k).equations)
    × ((x : ℕ) → x < 64 → count_of l.tally x ≤ 16 * l.e)
