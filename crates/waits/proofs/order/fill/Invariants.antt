use Rattle.std.proofs.Common.{◌≡◌, ℕ, ◌+◌, ◌*◌, ◌<◌, false, length, get_or}
use Rattle.table.specs.Decoding.{table_of}
use Rattle.table.specs.Syntax.{node_at}
use Rattle.schedule.specs.Reads.{before}
use Rattle.waits.proofs.order.fill.Given as goal

abbrev pub invariant-rows : goal.invariant-rows
invariant-rows l =
    (length l.marks ≡ 4096)
    × ((a b : ℕ) → a < l.i → b < l.n → get_or l.marks (64 * a + b) false ≡ before (node_at (table_of l.words) l.k) a b)

abbrev pub invariant-columns : goal.invariant-columns
invariant-columns l =
    (length l.marks ≡ 4096)
    × ((a b : ℕ) → a < l.i → b < l.n → get_or l.marks (64 * a + b) false ≡ before (node_at (table_of l.words) l.k) a b)
    × ((b : ℕ) → b < l.j → get_or l.marks (64 * l.i + b) false ≡ before (node_at (table_of l.words) l.k) l.i b)
