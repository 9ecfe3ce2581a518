-- What is known of the words read so far, by what is due next.
use Rattle.std.proofs.Common.{◌≡◌, ℕ, ◌+◌, ◌*◌, ◌<◌, ◌≤◌, List, [], ◌∷◌, ◌++◌, map, length, get_or, take}
use Rattle.std.specs.List.{AllByRecursion}
use Rattle.words.specs.declared.kinds.Operand.{Operand}
use Rattle.words.specs.declared.kinds.Ports.{Ports}
use Rattle.words.specs.declared.kinds.Variable.{Variable}
use Rattle.words.specs.declared.kinds.Word.{Word}
use Rattle.words.specs.declared.kinds.Word.TheVariants.{Node as Open, Variable as Declare, Delay, Operand as With, Give}
use Rattle.words.specs.Format.{encoded}
use Rattle.reader.specs.declared.outline.Outline.{Outline}
use Rattle.reader.specs.declared.scan.Expect.{Expect}
use Rattle.reader.specs.declared.scan.Expect.TheVariants.{Head as Due-head, Node as Due-node, Variables, Equation as Due-equation, Literal as Due-literal, Operands, Gives}
use Rattle.reader.specs.declared.scan.Scan.{Scan}
use Rattle.reader.specs.Scanning.{start}
use Rattle.table.specs.Syntax.{Node, Table, node_at, variable_count}
use Rattle.table.specs.Spelling.{equations_words, ports_of, spelled, VariableKeeps, OperandKeeps, EquationKeeps, NodeKeeps, node_place, head_place, OutlinesNode}
use Rattle.table.proofs.Built.{arity, give_count, HeadKeeps, DelayStarts}

-- the arrays have their sizes
pub record Sized (o : Outline) : Type 0 where
  pub starts : length o.starts ≡ 32
  pub inputs : length o.inputs ≡ 32
  pub outputs : length o.outputs ≡ 32
  pub equations : length o.equations ≡ 32
  pub heads : length o.heads ≡ 2048

-- P are the nodes that are read, and the outline has them
pub record Finished (P : Table) (o : Outline) : Type 0 where
  pub sized : Sized o
  pub few : length P ≤ 32
  pub keeps : (k : ℕ) → k < length P → NodeKeeps (take k P) (node_at P k)
  pub each : (k : ℕ) → k < length P → OutlinesNode (take k P) (node_at P k) k o

-- no equation is counted for the nodes from k on
abbrev pub Fresh : ℕ → Outline → Type 0
Fresh k o = (j : ℕ) → k ≤ j → j < 32 → get_or o.equations j 0 ≡ 0

-- behind P a node of v variables is begun, of whose equations n are counted
pub record Begun (P : Table) (ins outs v n : ℕ) (o : Outline) : Type 0 where
  pub finished : Finished P o
  pub nodes : o.nodes ≡ length P + 1
  pub few : length P < 32
  pub ins_fit : (1 ≤ ins) × (ins ≤ 16)
  pub outs_fit : (1 ≤ outs) × (outs ≤ 16)
  pub fit : (ins + outs ≤ v) × (v ≤ 64)
  pub starts : get_or o.starts (length P) 0 ≡ node_place P
  pub inputs : get_or o.inputs (length P) 0 ≡ ins
  pub outputs : get_or o.outputs (length P) 0 ≡ outs
  pub counted : get_or o.equations (length P) 0 ≡ n
  pub room : n ≤ 64
  pub fresh : Fresh (length P + 1) o

-- the words of a node without its end
abbrev pub open_words : Node → List Word
open_words N = Open (ports_of N) ∷ (map Declare N.variables ++ equations_words N.equations)

-- N is the node so far, and n of its equations are counted
pub record InNode (P : Table) (N : Node) (v n : ℕ) (o : Outline) : Type 0 where
  pub begun : Begun P N.inputs N.outputs v n o
  pub variables : variable_count N ≡ v
  pub each_variable : AllByRecursion (VariableKeeps v) N.variables
  pub each_equation : AllByRecursion (EquationKeeps P v) N.equations
  pub heads : (e : ℕ) → e < n → get_or o.heads (64 * length P + e) 0 ≡ head_place P N e

-- The words so far are those of P, and then xs.
abbrev pub After : ℕ → Table → List Word → List ℕ → Type 0
After own P xs ws = ws ≡ spelled own P ++ map encoded xs

pub record BetweenNodes (own : ℕ) (o : Outline) (ws : List ℕ) : Type 0 where
  pub table : Table
  pub words : ws ≡ spelled own table
  pub finished : Finished table o
  pub nodes : o.nodes ≡ length table
  pub fresh : Fresh (length table) o

pub record InVariables (own more v : ℕ) (o : Outline) (ws : List ℕ) : Type 0 where
  pub table : Table
  pub ports : Ports
  pub variables : List Variable
  pub words : After own table (Open ports ∷ map Declare variables) ws
  pub begun : Begun table ports.inputs ports.outputs v 0 o
  pub total : ports.inputs + ports.outputs + ports.locals ≡ v
  pub count : length variables + more ≡ v
  pub some : 1 ≤ more
  pub each : AllByRecursion (VariableKeeps v) variables

pub record InEquations (own v : ℕ) (o : Outline) (ws : List ℕ) : Type 0 where
  pub table : Table
  pub node : Node
  pub words : After own table (open_words node) ws
  pub within : InNode table node v (length node.equations) o

abbrev pub begun_words : Node → Word → List Operand → List ℕ → List Word
begun_words N h ops gs = open_words N ++ (h ∷ (map With ops ++ map Give gs))

-- behind an equation's head: the operands so far, and the gives so far
pub record InEquation (own operands gives v : ℕ) (o : Outline) (ws : List ℕ) : Type 0 where
  pub table : Table
  pub node : Node
  pub head : Word
  pub ops : List Operand
  pub gs : List ℕ
  pub words : After own table (begun_words node head ops gs) ws
  pub within : InNode table node v (length node.equations + 1) o
  pub keeps : HeadKeeps table v head
  pub each_operand : AllByRecursion (OperandKeeps v) ops
  pub each_give : AllByRecursion (λ x. x < v) gs
  pub operand_count : length ops + operands ≡ arity table head
  pub give_count : length gs + gives ≡ give_count table head
  pub literal : DelayStarts head ops

pub record InOperands (own more gives v : ℕ) (o : Outline) (ws : List ℕ) : Type 0 where
  pub so_far : InEquation own more gives v o ws
  pub none : so_far.gs ≡ []
  pub some : 1 ≤ more

pub record InGives (own more v : ℕ) (o : Outline) (ws : List ℕ) : Type 0 where
  pub so_far : InEquation own 0 more v o ws
  pub some : 1 ≤ more

-- a DELAY's head is read, and its literal is due
pub record InLiteral (own v : ℕ) (o : Outline) (ws : List ℕ) : Type 0 where
  pub table : Table
  pub node : Node
  pub variable : ℕ
  pub words : After own table (open_words node ++ Delay variable ∷ []) ws
  pub within : InNode table node v (length node.equations + 1) o
  pub keeps : variable < v

abbrev pub TrackedBy : Expect → ℕ → ℕ → Outline → List ℕ → Type 0
TrackedBy Due-head own v o ws = (ws ≡ []) × (o ≡ start.outline)
TrackedBy Due-node own v o ws = BetweenNodes own o ws
TrackedBy (Variables more) own v o ws = InVariables own more v o ws
TrackedBy Due-equation own v o ws = InEquations own v o ws
TrackedBy Due-literal own v o ws = InLiteral own v o ws
TrackedBy (Operands more gives) own v o ws = InOperands own more gives v o ws
TrackedBy (Gives more) own v o ws = InGives own more v o ws

abbrev pub Tracked : ℕ → Scan → List ℕ → Type 0
Tracked own s ws = TrackedBy s.expect own s.variables s.outline ws
