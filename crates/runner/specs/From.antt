-- Runs of a node's words from a place on.
use Rattle.std.specs.Prelude.{◌≡◌, ℕ, ◌+◌, ◌<◌, ◌≤◌, Bool, true, List, length, drop, slice_index}
use Rattle.opset.specs.Meaning.{Meaning}
use Rattle.instructions.specs.Format.{says}
use Rattle.execution.specs.Words.{walk, word_blocks, program}
use Rattle.execution.specs.Sound.{fine, word_fine}

-- the cells after a run of node k's words from place p on
abbrev pub run_from : {V : Type 0} → Meaning V → List ℕ → ℕ → ℕ → List V → List V
run_from m ws k p = walk m (word_blocks m ws k) 0 (drop p (program ws))

-- such a run can be made with no test
abbrev pub fine_from : List ℕ → ℕ → ℕ → Bool
fine_from ws k p = fine ws k 0 (drop p (program ws))

-- the operands of an operator stand from place p on, in a segment of so many cells, and words stand behind them
pub record OperandsAt (ws : List ℕ) (op size p : ℕ) : Type 0 where
  pub near : p + 1 < length ws
  pub first : word_fine size (says (slice_index ws p)) ≡ true
  pub far : 128 ≤ op → p + 2 < length ws
  pub second : 128 ≤ op → word_fine size (says (slice_index ws (p + 1))) ≡ true
