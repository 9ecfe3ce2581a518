-- The words of a table, and the limits that a table keeps.
use Rattle.std.specs.Prelude.{◌≡◌, ℕ, ◌+◌, ◌-◌, ◌*◌, ◌^◌, ◌<◌, ◌≤◌, List, [], ◌∷◌, ◌++◌, map, length, take, Some, None, Option, slice_index, slice_index_or}
use Rattle.std.specs.List.{AllByRecursion}
use Rattle.words.specs.declared.kinds.Clock.{Clock}
use Rattle.words.specs.declared.kinds.Clock.TheVariants.{Base, On}
use Rattle.words.specs.declared.kinds.Literal.{Literal}
use Rattle.words.specs.declared.kinds.Operand.{Operand}
use Rattle.words.specs.declared.kinds.Operand.TheVariants.{Take, Literal as Constant}
use Rattle.words.specs.declared.kinds.Ports.{Ports}
use Rattle.words.specs.declared.kinds.Variable.{Variable}
use Rattle.words.specs.declared.kinds.Word.{Word}
use Rattle.words.specs.declared.kinds.Word.TheVariants.{Head, Node as Open, Variable as Declare, Operate, Sample, Merge, Choose, Delay, Call, Operand as With, Give, End}
use Rattle.words.specs.Format.{encoded}
use Rattle.reader.specs.declared.outline.Outline.{Outline}
use Rattle.table.specs.Syntax.{Equation, operate, sample, merge, choose, delay, call, Node, Table, node_at, variable_count}

abbrev pub optional : Option Operand → List Word
optional None = []
optional (Some a) = With a ∷ []

-- an equation: its head, its operands, and a call's gives
abbrev pub equation_words : Equation → List Word
equation_words (operate op a b x) = Operate op x ∷ With a ∷ optional b
equation_words (sample a x) = Sample x ∷ With a ∷ []
equation_words (merge s a b x) = Merge s x ∷ With a ∷ With b ∷ []
equation_words (choose s a b x) = Choose s x ∷ With a ∷ With b ∷ []
equation_words (delay l a x) = Delay x ∷ With (Constant l) ∷ With a ∷ []
equation_words (call g r ops gs) = Call g r ∷ (map With ops ++ map Give gs)

abbrev pub equations_words : List Equation → List Word
equations_words [] = []
equations_words (e ∷ es) = equation_words e ++ equations_words es

abbrev pub ports_of : Node → Ports
ports_of N = record { inputs = N.inputs; outputs = N.outputs; locals = variable_count N - (N.inputs + N.outputs) }

-- a node: its counts, its variables, its equations and its end
abbrev pub node_words : Node → List Word
node_words N = Open (ports_of N) ∷ (map Declare N.variables ++ (equations_words N.equations ++ (End ∷ [])))

abbrev pub nodes_words : Table → List Word
nodes_words [] = []
nodes_words (N ∷ T) = node_words N ++ nodes_words T

-- the table for the operator set of a number: a head, and the nodes
abbrev pub spelled : ℕ → Table → List ℕ
spelled own T = map encoded (Head own ∷ nodes_words T)

-- The limits. Numbers name variables of the node, and nodes before it; literals have a type below 16 and a payload of 24 bits.
abbrev pub ClockKeeps : ℕ → Clock → Type 0
ClockKeeps v Base = Unit {0}
ClockKeeps v (On sampler sense) = sampler < v

pub record VariableKeeps (v : ℕ) (x : Variable) : Type 0 where
  pub ty : x.ty < 16
  pub clock : ClockKeeps v x.clock

pub record LiteralKeeps (l : Literal) : Type 0 where
  pub ty : l.ty < 16
  pub payload : l.payload < 2 ^ 24

abbrev pub OperandKeeps : ℕ → Operand → Type 0
OperandKeeps v (Take x) = x < v
OperandKeeps v (Constant l) = LiteralKeeps l

abbrev pub RestartKeeps : ℕ → Option ℕ → Type 0
RestartKeeps v None = Unit {0}
RestartKeeps v (Some r) = r < v

-- operators below 128 take one operand, the others two
abbrev pub SecondKeeps : ℕ → ℕ → Option Operand → Type 0
SecondKeeps v op None = op < 128
SecondKeeps v op (Some b) = (128 ≤ op) × (op < 256) × OperandKeeps v b

-- an equation of a node of v variables, behind the earlier nodes, which it may call
abbrev pub EquationKeeps : Table → ℕ → Equation → Type 0
EquationKeeps earlier v (operate op a b x) = OperandKeeps v a × SecondKeeps v op b × (x < v)
EquationKeeps earlier v (sample a x) = OperandKeeps v a × (x < v)
EquationKeeps earlier v (merge s a b x) = (s < v) × OperandKeeps v a × OperandKeeps v b × (x < v)
EquationKeeps earlier v (choose s a b x) = (s < v) × OperandKeeps v a × OperandKeeps v b × (x < v)
EquationKeeps earlier v (delay l a x) = LiteralKeeps l × OperandKeeps v a × (x < v)
EquationKeeps earlier v (call g r ops gs) =
    (g < length earlier) × RestartKeeps v r × AllByRecursion (OperandKeeps v) ops × AllByRecursion (λ x. x < v) gs ×
    (length ops ≡ (node_at earlier g).inputs) × (length gs ≡ (node_at earlier g).outputs)

pub record NodeKeeps (earlier : Table) (N : Node) : Type 0 where
  pub inputs : (1 ≤ N.inputs) × (N.inputs ≤ 16)
  pub outputs : (1 ≤ N.outputs) × (N.outputs ≤ 16)
  pub count : (N.inputs + N.outputs ≤ variable_count N) × (variable_count N ≤ 64)
  pub variables : AllByRecursion (VariableKeeps (variable_count N)) N.variables
  pub equation_count : length N.equations ≤ 64
  pub equations : AllByRecursion (EquationKeeps earlier (variable_count N)) N.equations

pub record KeepsLimits (T : Table) : Type 0 where
  pub count : (1 ≤ length T) × (length T ≤ 32)
  pub nodes : (k : ℕ) → k < length T → NodeKeeps (take k T) (node_at T k)

-- where a node begins, and where an equation's head stands, behind the earlier nodes
abbrev pub node_place : Table → ℕ
node_place earlier = 1 + length (nodes_words earlier)

abbrev pub head_place : Table → Node → ℕ → ℕ
head_place earlier N e = node_place earlier + 1 + variable_count N + length (equations_words (take e N.equations))

-- an outline has node k as it is
pub record OutlinesNode (earlier : Table) (N : Node) (k : ℕ) (o : Outline) : Type 0 where
  pub start : slice_index_or o.starts k 0 ≡ node_place earlier
  pub inputs : slice_index_or o.inputs k 0 ≡ N.inputs
  pub outputs : slice_index_or o.outputs k 0 ≡ N.outputs
  pub equations : slice_index_or o.equations k 0 ≡ length N.equations
  pub heads : (e : ℕ) → e < length N.equations → slice_index o.heads (64 * k + e) ≡ head_place earlier N e

-- an outline tells where the parts of a table stand
pub record Outlines (T : Table) (o : Outline) : Type 0 where
  pub nodes : o.nodes ≡ length T
  pub each : (k : ℕ) → k < length T → OutlinesNode (take k T) (node_at T k) k o
