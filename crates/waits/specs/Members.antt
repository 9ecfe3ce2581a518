-- The members of a set of variables.
use Rattle.std.specs.Prelude.{◌≡◌, ℕ, ◌/◌, ◌%◌, ◌^◌, ◌<◌, Bool, List, Some, None, Option, ◌==◌}
use Rattle.words.specs.declared.kinds.Operand.{Operand}
use Rattle.words.specs.declared.kinds.Operand.TheVariants.{Take, Literal as Constant}
use Rattle.rules.specs.Definitions.{is_in}
use Rattle.waits.specs.declared.variable_set.VariableSet.{VariableSet}

abbrev pub has : VariableSet → ℕ → Bool
has s x = s.0 / 2 ^ x % 2 == 1

-- a set has the variables of a list, and no other
pub record Holds (s : VariableSet) (l : List ℕ) : Type 0 where
  pub members : (x : ℕ) → x < 64 → has s x ≡ is_in x l

-- what an operand or a restart names can be a member
abbrev pub OperandSmall : Operand → Type 0
OperandSmall (Take x) = x < 64
OperandSmall (Constant l) = Unit {0}

abbrev pub SecondSmall : Option Operand → Type 0
SecondSmall None = Unit {0}
SecondSmall (Some b) = OperandSmall b

abbrev pub RestartSmall : Option ℕ → Type 0
RestartSmall None = Unit {0}
RestartSmall (Some r) = r < 64
