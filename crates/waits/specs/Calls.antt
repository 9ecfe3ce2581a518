-- What a CALL reads and gives, by its place in the words.
use Rattle.std.specs.Prelude.{◌≡◌, ℕ, ◌+◌, ◌≤◌, List, ◌++◌, length, Option, slice_index}
use Rattle.table.specs.Access.{gives_at, operands_at}
use Rattle.table.specs.Decoding.{table_of}
use Rattle.table.specs.Syntax.{node_at}
use Rattle.schedule.specs.Reads.{chain, operands_read, restart_reads}

-- the gives of a call of node g, whose first operand stands at a place
abbrev pub call_gives : List ℕ → ℕ → ℕ → List ℕ
call_gives ws g at = gives_at ws (at + (node_at (table_of ws) g).inputs) (node_at (table_of ws) g).outputs

-- what such a call reads, in node k
abbrev pub call_reads : List ℕ → ℕ → ℕ → Option ℕ → ℕ → List ℕ
call_reads ws k g r at =
    operands_read (operands_at ws at (node_at (table_of ws) g).inputs)
    ++ (restart_reads (node_at (table_of ws) k) r ++ chain (node_at (table_of ws) k) (slice_index (call_gives ws g at) 0))

-- a place within the words, from which they read as from the other
pub record Within (ws : List ℕ) (at r : ℕ) : Type 0 where
  pub bound : r ≤ length ws
  pub operands : (n : ℕ) → operands_at ws r n ≡ operands_at ws at n
  pub gives : (i n : ℕ) → gives_at ws (r + i) n ≡ gives_at ws (at + i) n
