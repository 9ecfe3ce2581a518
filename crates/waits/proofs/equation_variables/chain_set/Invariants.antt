use Rattle.std.proofs.Common.{◌≡◌, ℕ, ◌-◌, ◌<◌, List, ◌++◌}
use Rattle.table.specs.Decoding.{table_of}
use Rattle.table.specs.Syntax.{node_at}
use Rattle.schedule.specs.Reads.{chain, chain_to}
use Rattle.waits.specs.Members.{Holds}
use Rattle.waits.proofs.equation_variables.chain_set.Given as goal

-- what is inserted, and the chain from here on, are the whole chain
abbrev pub invariant-samplers : goal.invariant-samplers
invariant-samplers l =
    (passed : List ℕ) × Holds l.set passed
    × (chain (node_at (table_of l.words) l.k) l.x ≡ passed ++ chain_to (8 - l._passed) (node_at (table_of l.words) l.k) l.last)
    × (l.last < 256)
