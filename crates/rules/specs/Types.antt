-- The rule of types.
use Rattle.std.specs.Prelude.{ℕ, ◌+◌, Bool, true, false, ◌&&◌, List, [], ◌∷◌, is_some, Some, None, Option, ◌==◌}
use Rattle.std.specs.Option.{option_map}
use Rattle.opset.specs.Meaning.{Meaning}
use Rattle.words.specs.declared.kinds.Clock.{Clock}
use Rattle.words.specs.declared.kinds.Clock.TheVariants.{Base, On}
use Rattle.words.specs.declared.kinds.Literal.{Literal}
use Rattle.words.specs.declared.kinds.Operand.{Operand}
use Rattle.words.specs.declared.kinds.Operand.TheVariants.{Take, Literal as Constant}
use Rattle.table.specs.Syntax.{Equation, operate, sample, merge, choose, delay, call, Node, Table, node_at}
pub use Rattle.table.specs.Syntax.{variable_at}

abbrev pub type_of : Node → ℕ → ℕ
type_of N x = (variable_at N x).ty

-- booleans have type 0
abbrev pub is_boolean : Node → ℕ → Bool
is_boolean N x = type_of N x == 0

abbrev pub operand_type : Node → Operand → ℕ
operand_type N (Take x) = type_of N x
operand_type N (Constant l) = l.ty

module _ {V : Type 0} (m : Meaning V) where
  abbrev pub has_value : Literal → Bool
  has_value l = is_some (m.literal l.ty l.payload)

  -- a literal has a value
  abbrev pub valued : Operand → Bool
  valued (Take x) = true
  valued (Constant l) = has_value l

  abbrev pub operand_has : Node → Operand → ℕ → Bool
  operand_has N a ty = valued a && operand_type N a == ty

  abbrev pub second_valued : Option Operand → Bool
  second_valued None = true
  second_valued (Some b) = valued b

  -- there is a type, and it is this
  abbrev pub is_type : Option ℕ → ℕ → Bool
  is_type None ty = false
  is_type (Some u) ty = u == ty

  -- operands have the types of a node's variables from number i on
  abbrev pub operands_have : Node → List Operand → Node → ℕ → Bool
  operands_have N [] G i = true
  operands_have N (a ∷ l) G i = operand_has N a (type_of G i) && operands_have N l G (i + 1)

  abbrev pub gives_have : Node → List ℕ → Node → ℕ → Bool
  gives_have N [] G i = true
  gives_have N (x ∷ l) G i = type_of N x == type_of G i && gives_have N l G (i + 1)

  abbrev pub restart_boolean : Node → Option ℕ → Bool
  restart_boolean N None = true
  restart_boolean N (Some r) = is_boolean N r

  abbrev pub sampler_boolean : Node → Clock → Bool
  sampler_boolean N Base = true
  sampler_boolean N (On s sense) = is_boolean N s

  -- a variable has a type of the set, and its sampler is boolean
  abbrev pub variable_typed : Node → ℕ → Bool
  variable_typed N x = m.has_type (type_of N x) && sampler_boolean N (variable_at N x).clock

  -- an equation of node N, behind the earlier nodes
  abbrev pub equation_typed : Table → Node → Equation → Bool
  equation_typed P N (operate op a b x) =
      valued a && (second_valued b && is_type (m.result_type op (operand_type N a) (option_map (operand_type N) b)) (type_of N x))
  equation_typed P N (sample a x) = operand_has N a (type_of N x)
  equation_typed P N (merge s a b x) = is_boolean N s && (operand_has N a (type_of N x) && operand_has N b (type_of N x))
  equation_typed P N (choose s a b x) = is_boolean N s && (operand_has N a (type_of N x) && operand_has N b (type_of N x))
  equation_typed P N (delay l a x) = operand_has N (Constant l) (type_of N x) && operand_has N a (type_of N x)
  equation_typed P N (call g r ops gs) =
      restart_boolean N r && (operands_have N ops (node_at P g) 0 && gives_have N gs (node_at P g) (node_at P g).inputs)
