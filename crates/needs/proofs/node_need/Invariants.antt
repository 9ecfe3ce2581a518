use Rattle.std.proofs.Common.{◌≡◌, ◌+◌, ◌*◌, ◌≤◌, take}
use Rattle.table.specs.Decoding.{table_of}
use Rattle.table.specs.Syntax.{node_at, variable_count}
use Rattle.schedule.specs.Need.{calls_need}
use Rattle.needs.proofs.node_need.Given as goal

abbrev pub invariant-equations : goal.invariant-equations
invariant-equations l =
    (l.need ≡ variable_count (node_at (table_of l.words) l.k) + calls_need l.needs (take l.e (node_at (table_of l.words) l.k).equations))
    × (l.need ≤ 64 + 65535 * l.e)
