-- Words that begin with the code of a table: they can be run untested, and running them does what the table's statements do.
use Rattle.std.specs.Prelude.{◌≡◌, ℕ, ◌<◌, ◌≤◌, List, length, take, slice_index}
use Rattle.opset.specs.Meaning.{Meaning}
use Rattle.table.specs.Syntax.{Table}
use Rattle.table.specs.Spelling.{KeepsLimits}
use Rattle.rules.specs.Types.{type_of}
use Rattle.schedule.specs.Need.{needs}
use Rattle.code.specs.Code.{code_words, main_of}
use Rattle.execution.specs.Statements.{reset_of, step_of, table_blocks}
use Rattle.execution.specs.Words.{need_at, reset_by, step_by}
use Rattle.execution.specs.Sound.{Sound, nodes_in, set_in, inputs_in, outputs_in, input_type}

-- the words begin with the code of a table for the operator set of a number
pub record Begins (own : ℕ) (T : Table) (ws : List ℕ) : Type 0 where
  pub number : own < 256
  pub limits : KeepsLimits T
  pub needed : (k : ℕ) → k < length T → slice_index (needs T) k ≤ 4096
  pub short : length (code_words own T) ≤ 16384
  pub front : take (length (code_words own T)) ws ≡ code_words own T

-- what stands in front of the blocks
pub record Front (own : ℕ) (T : Table) (ws : List ℕ) : Type 0 where
  pub nodes : nodes_in ws ≡ length T
  pub set : set_in ws ≡ own
  pub inputs : inputs_in ws ≡ (main_of T).inputs
  pub outputs : outputs_in ws ≡ (main_of T).outputs
  pub types : (i : ℕ) → i < (main_of T).inputs → input_type ws i ≡ type_of (main_of T) i
  pub needed : (k : ℕ) → k < length T → need_at ws k ≡ slice_index (needs T) k

-- a run of a node's block does what its statements do
pub record Runs {V : Type 0} (m : Meaning V) (T : Table) (ws : List ℕ) : Type 0 where
  pub resets : (k : ℕ) → k < length T → (cells : List V) → reset_by m ws k cells ≡ reset_of m (table_blocks m T k) T k cells
  pub steps : (k : ℕ) → k < length T → (cells : List V) → step_by m ws k cells ≡ step_of m (table_blocks m T k) T k cells

abbrev pub CodeIsSound : Type 0
CodeIsSound = (own : ℕ) (T : Table) (ws : List ℕ) → Begins own T ws → Sound ws × Front own T ws

abbrev pub CodeRunsStatements : {V : Type 0} → Meaning V → Type 0
CodeRunsStatements m = (own : ℕ) (T : Table) (ws : List ℕ) → Begins own T ws → Runs m T ws
