-- The order by the marks is the order by the equations.
use Rattle.std.proofs.Common.{◌≡◌, ℕ, ◌+◌, ◌*◌, ◌<◌, ◌≤◌, Bool, false, List, length, get_or, Option, sym, ap, ◌∙◌}
use Rattle.reader.specs.declared.outline.Outline.{Outline}
use Rattle.table.specs.Syntax.{Node, node_at, equation_count}
use Rattle.table.specs.Decoding.{table_of}
use Rattle.table.specs.Access.{Described}
use Rattle.schedule.specs.Reads.{before}
use Rattle.schedule.specs.Waits.{comes_before}
use Rattle.schedule.specs.Found.{order_of}
use Rattle.schedule.proofs.Same.{order_same}

pub by_marks : (N : Node) (marks : List Bool) (n : ℕ) (r : Option (List ℕ))
    → ((i j : ℕ) → i < equation_count N → j < equation_count N → get_or marks (64 * i + j) false ≡ before N i j)
    → n ≡ equation_count N → r ≡ order_of (comes_before marks) n → order_of (before N) (equation_count N) ≡ r
by_marks N marks n r f e v =
    sym (v ∙ ap (order_of (comes_before marks)) e ∙ (order_same (comes_before marks) (before N) (equation_count N) f).found)

pub few_equations : (ws : List ℕ) (o : Outline) → Described ws o → (k : ℕ) → k < length (table_of ws) → equation_count (node_at (table_of ws) k) ≤ 64
few_equations ws o d k h = (d.spells.keeps.nodes k h).equation_count
