-- Tables of nodes as data: what the drawing tool draws.
use Rattle.std.specs.Prelude.{ℕ, List, [], length, Option, slice_index_or}
use Rattle.words.specs.declared.kinds.Clock.TheVariants.{Base}
use Rattle.words.specs.declared.kinds.Literal.{Literal}
use Rattle.words.specs.declared.kinds.Operand.{Operand}
use Rattle.words.specs.declared.kinds.Operand.TheVariants.{Take}
use Rattle.words.specs.declared.kinds.Variable.{Variable}

-- An equation ends with the variable that it defines; a call with those that take the called node's outputs.
pub data Equation : Type 0 where
  -- an operator on one operand, or on two
  operate : ℕ → Operand → Option Operand → ℕ → Equation
  sample : Operand → ℕ → Equation
  -- by a selector: its operand where it is true, and where it is false
  merge : ℕ → Operand → Operand → ℕ → Equation
  choose : ℕ → Operand → Operand → ℕ → Equation
  -- first the literal, then what the operand was
  delay : Literal → Operand → ℕ → Equation
  -- an instance of an earlier node, and the variable that restarts it
  call : ℕ → Option ℕ → List Operand → List ℕ → Equation

-- variables are numbered from 0: inputs, then outputs, then locals
pub record Node : Type 0 where
  pub inputs : ℕ
  pub outputs : ℕ
  pub variables : List Variable
  pub equations : List Equation

-- the last node is main
abbrev pub Table : Type 0
Table = List Node

abbrev pub none : Node
none = record { inputs = 0; outputs = 0; variables = []; equations = [] }

abbrev pub node_at : Table → ℕ → Node
node_at T k = slice_index_or T k none

abbrev pub variable_count : Node → ℕ
variable_count N = length N.variables

-- a variable of a node; past the last, as no table within the limits names one, a boolean on the base
abbrev pub variable_at : Node → ℕ → Variable
variable_at N x = slice_index_or N.variables x (record { ty = 0; clock = Base })

abbrev pub an_equation : Equation
an_equation = sample (Take 0) 0

abbrev pub equation_at : Node → ℕ → Equation
equation_at N e = slice_index_or N.equations e an_equation

abbrev pub equation_count : Node → ℕ
equation_count N = length N.equations
