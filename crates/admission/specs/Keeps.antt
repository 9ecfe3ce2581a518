-- The rules that a table keeps.
use Rattle.std.specs.Prelude.{◌≡◌, ℕ, ◌<◌, ◌≤◌, true, List, length, take, slice_index}
use Rattle.opset.specs.Meaning.{Meaning}
use Rattle.table.specs.Syntax.{Node, Table, node_at, variable_count}
pub use Rattle.table.specs.Syntax.{equation_count}
use Rattle.table.specs.Spelling.{KeepsLimits}
use Rattle.rules.specs.Types.{variable_typed, equation_typed}
use Rattle.rules.specs.Clocks.{variable_clocked, equation_clocked}
use Rattle.rules.specs.Definitions.{variable_defined}
use Rattle.schedule.specs.Reads.{equation_at, before}
use Rattle.schedule.specs.Order.{Order}
use Rattle.schedule.specs.Need.{needs}

-- node N, behind the earlier nodes, computing with the values of a set that means m
pub record KeepsNode {V : Type 0} (m : Meaning V) (earlier : Table) (N : Node) : Type 0 where
  pub typed : (x : ℕ) → x < variable_count N → variable_typed m N x ≡ true
  pub typed_equations : (e : ℕ) → e < equation_count N → equation_typed m earlier N (equation_at N e) ≡ true
  pub clocked : (x : ℕ) → x < variable_count N → variable_clocked N x ≡ true
  pub clocked_equations : (e : ℕ) → e < equation_count N → equation_clocked N (equation_at N e) ≡ true
  pub defined : (x : ℕ) → x < variable_count N → variable_defined N x ≡ true
  -- some order of its equations exists
  pub ordered : (os : List ℕ) × Order (before N) (equation_count N) os

-- a table keeps the limits of its format, and each node the rules; and no node needs more than 4,096 cells
pub record KeepsRules {V : Type 0} (m : Meaning V) (T : Table) : Type 0 where
  pub limits : KeepsLimits T
  pub nodes : (k : ℕ) → k < length T → KeepsNode m (take k T) (node_at T k)
  pub need : (k : ℕ) → k < length T → slice_index (needs T) k ≤ 4096

-- the part of the rules that no operator set has a part in
pub record KeepsNodeShape (N : Node) : Type 0 where
  pub clocked : (x : ℕ) → x < variable_count N → variable_clocked N x ≡ true
  pub clocked_equations : (e : ℕ) → e < equation_count N → equation_clocked N (equation_at N e) ≡ true
  pub defined : (x : ℕ) → x < variable_count N → variable_defined N x ≡ true
  pub ordered : (os : List ℕ) × Order (before N) (equation_count N) os

pub record KeepsShape (T : Table) : Type 0 where
  pub nodes : (k : ℕ) → k < length T → KeepsNodeShape (node_at T k)
  pub need : (k : ℕ) → k < length T → slice_index (needs T) k ≤ 4096
