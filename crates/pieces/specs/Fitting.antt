-- Parts of equations that fit the fields of code words; a call by its place in a table's words.
use Rattle.std.specs.Prelude.{ℕ, ◌+◌, List, Some, None, Option}
use Rattle.words.specs.declared.kinds.Operand.{Operand}
use Rattle.words.specs.Format.{OperandFits}
use Rattle.table.specs.Access.{operands_at, gives_at}
use Rattle.table.specs.Decoding.{table_of}
use Rattle.table.specs.Syntax.{node_at}

abbrev pub SecondFits : Option Operand → Type 0
SecondFits None = Unit {0}
SecondFits (Some b) = OperandFits b

-- the operands, and the gives, of a call of node g whose first operand stands at a place
abbrev pub call_operands : List ℕ → ℕ → ℕ → List Operand
call_operands ws g at = operands_at ws at (node_at (table_of ws) g).inputs

abbrev pub call_gives : List ℕ → ℕ → ℕ → List ℕ
call_gives ws g at = gives_at ws (at + (node_at (table_of ws) g).inputs) (node_at (table_of ws) g).outputs
