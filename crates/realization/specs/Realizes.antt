-- A node's blocks realize its machine: a reset block its start, a step block its step.
use Rattle.std.specs.Prelude.{◌≡◌, ℕ, ◌+◌, ◌<◌, ◌≤◌, List, length, Some, slice_index}
use Rattle.std.specs.List.{slice_get}
use Rattle.opset.specs.Meaning.{Meaning}
use Rattle.table.specs.Syntax.{Table, node_at}
use Rattle.schedule.specs.Need.{needs}
use Rattle.admission.specs.Keeps.{KeepsRules}
use Rattle.streams.specs.Streams.{Env}
use Rattle.streams.specs.Machine.{Tree, machine}
use Rattle.streams.specs.Instant.{Filled}
use Rattle.execution.specs.Statements.{reset_of, step_of, table_blocks}
use Rattle.realization.specs.Holds.{Holds}

module _ {V : Type 0} (m : Meaning V) (T : Table) (k : ℕ) where
  -- after a reset: the inputs and outputs stay, and so does what lies behind the segment
  pub record WasReset (cells after : List V) : Type 0 where
    pub long : length after ≡ length cells
    pub past : (a : ℕ) → slice_index (needs T) k ≤ a → slice_get after a ≡ slice_get cells a
    pub ports : (a : ℕ) → a < (node_at T k).inputs + (node_at T k).outputs → slice_get after a ≡ slice_get cells a
    pub holds : Holds T k (slice_get after) (machine m T k).start

  -- after a step from memory M with the inputs vs: the outputs are what the instant shows
  pub record WasStepped (M : Tree V) (vs : List V) (cells after : List V) : Type 0 where
    pub long : length after ≡ length cells
    pub past : (a : ℕ) → slice_index (needs T) k ≤ a → slice_get after a ≡ slice_get cells a
    pub inputs : (x : ℕ) → x < (node_at T k).inputs → slice_get after x ≡ slice_get cells x
    pub shows : (y : ℕ) → y < (node_at T k).inputs + (node_at T k).outputs → slice_get after y ≡ (machine m T k).shows M (Some vs) y
    pub holds : Holds T k (slice_get after) ((machine m T k).next M (Some vs))

  pub record Realizes : Type 0 where
    -- a memory is held behind the inputs, in so many cells as the node needs
    pub local : (w w' : Env V) (M : Tree V) → Holds T k w M → ((a : ℕ) → (node_at T k).inputs ≤ a → a < slice_index (needs T) k → w a ≡ w' a) → Holds T k w' M
    pub reset : (cells : List V) → slice_index (needs T) k ≤ length cells → WasReset cells (reset_of m (table_blocks m T k) T k cells)
    pub step : (cells : List V) (M : Tree V) (vs : List V) → slice_index (needs T) k ≤ length cells → Filled T k M → Holds T k (slice_get cells) M
        → length vs ≡ (node_at T k).inputs → ((x : ℕ) → x < (node_at T k).inputs → slice_get cells x ≡ slice_get vs x)
        → WasStepped M vs cells (step_of m (table_blocks m T k) T k cells)

-- of every table that keeps the rules, and each of its nodes
abbrev pub BlocksRealizeMachines : {V : Type 0} → Meaning V → Type 0
BlocksRealizeMachines m = (T : Table) → KeepsRules m T → (k : ℕ) → k < length T → Realizes m T k
