-- What fine words say of their calls.
use Rattle.std.specs.Prelude.{◌≡◌, ℕ, ◌+◌, ◌<◌, ◌≤◌, true, List, length, drop, slice_index}
use Rattle.words.specs.Bits.{field}
use Rattle.words.specs.declared.kinds.Operand.{Operand}
use Rattle.execution.specs.Words.{gives_in, need_at, operands_in, program}
use Rattle.execution.specs.Sound.{gives_fine, operands_fine}
use Rattle.runner.specs.declared.calls.Call.{Call}
use Rattle.runner.specs.From.{fine_from}

-- the word at p, of node k, calls a block of an earlier node, which can be run, on a segment of k's cells
pub record CallAt (ws : List ℕ) (k p : ℕ) (c : Call) : Type 0 where
  pub node : c.node ≡ field (slice_index ws p) 20 8
  pub offset : c.offset ≡ field (slice_index ws p) 0 13
  pub earlier : c.node < k
  pub room : c.offset + need_at ws c.node ≤ need_at ws k
  pub good : fine_from ws c.node c.start ≡ true

-- the operands and the gives behind a STEP at p
abbrev pub operands_of : List ℕ → ℕ → List Operand
operands_of ws p = operands_in (drop (p + 1) (program ws))

abbrev pub gives_of : List ℕ → ℕ → List ℕ
gives_of ws p = gives_in (drop (p + 1 + length (operands_of ws p)) (program ws))

-- they name k's cells, are no more than the cells of the called node g, and words stand behind them
pub record StepAt (ws : List ℕ) (k p g : ℕ) : Type 0 where
  pub operands : operands_fine (need_at ws k) (operands_of ws p) ≡ true
  pub gives : gives_fine (need_at ws k) (gives_of ws p) ≡ true
  pub fits : length (operands_of ws p) + length (gives_of ws p) ≤ need_at ws g
  pub behind : p + 1 + (length (operands_of ws p) + length (gives_of ws p)) < length ws
