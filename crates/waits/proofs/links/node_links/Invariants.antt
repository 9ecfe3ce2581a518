use Rattle.std.proofs.Common.{◌≡◌, ℕ, ◌<◌, length, get_or}
use Rattle.table.specs.Decoding.{table_of}
use Rattle.table.specs.Syntax.{equation_at, node_at}
use Rattle.waits.specs.Linked.{Linked, no_links}
use Rattle.waits.proofs.links.node_links.Given as goal

abbrev pub invariant-equations : goal.invariant-equations
invariant-equations l =
    (length l.links ≡ 64)
    × ((e : ℕ) → e < l.e → Linked (node_at (table_of l.words) l.k) (get_or l.links e no_links) (equation_at (node_at (table_of l.words) l.k) e))
