-- The statements of a node's two blocks.
use Rattle.std.specs.Prelude.{ℕ, zero, suc, ◌+◌, Bool, true, List, [], ◌∷◌, ◌++◌, take, Some, None, Option}
use Rattle.words.specs.declared.kinds.Clock.{Clock}
use Rattle.words.specs.declared.kinds.Clock.TheVariants.{Base, On}
use Rattle.words.specs.declared.kinds.Operand.{Operand}
use Rattle.words.specs.declared.kinds.Operand.TheVariants.{Literal as Constant}
use Rattle.table.specs.Syntax.{Equation, operate, sample, merge, choose, delay, call, Node, variable_count, equation_at, equation_count}
use Rattle.rules.specs.Clocks.{clock_of, call_clock}
use Rattle.schedule.specs.Need.{calls_need}

-- a variable that is tested before a statement, and the sense that lets the statement run
pub record Test : Type 0 where
  pub variable : ℕ
  pub sense : Bool

pub data Action : Type 0 where
  -- an operator on one operand, or on two, and the variable that takes the result
  assign : ℕ → Operand → Option Operand → ℕ → Action
  -- by a selector one of two operands
  select : ℕ → Operand → Operand → ℕ → Action
  -- the reset block, or the step block, of a node on the segment that begins so many cells into this one
  reset : ℕ → ℕ → Action
  step : ℕ → ℕ → List Operand → List ℕ → Action

pub record Statement : Type 0 where
  pub tests : List Test
  pub action : Action

-- the tests of a clock's chain of samplers, the one on the base first
abbrev pub tests_to : ℕ → Node → Clock → List Test
tests_to zero N c = []
tests_to (suc d) N Base = []
tests_to (suc d) N (On s sense) = tests_to d N (clock_of N s) ++ record { variable = s; sense = sense } ∷ []

-- a chain that keeps the rule of clocks has at most 8 samplers
abbrev pub tests : Node → Clock → List Test
tests N c = tests_to 8 N c

abbrev pub under : Node → Clock → Action → Statement
under N c a = record { tests = tests N c; action = a }

-- a segment has the node's variables, and then a segment for each CALL, in the order of the table: where that of equation e begins
abbrev pub offset : List ℕ → Node → ℕ → ℕ
offset needs N e = variable_count N + calls_need needs (take e N.equations)

-- a restart: under the restart variable's chain and that variable
abbrev pub restart_statements : Node → ℕ → ℕ → Option ℕ → List Statement
restart_statements N g off None = []
restart_statements N g off (Some r) =
    record { tests = tests N (clock_of N r) ++ record { variable = r; sense = true } ∷ []; action = reset g off } ∷ []

-- the statements of an equation, each under the chain of the equation's clock; a restart comes first
abbrev pub statements : Node → ℕ → Equation → List Statement
statements N off (operate op a b x) = under N (clock_of N x) (assign op a b x) ∷ []
statements N off (sample a x) = under N (clock_of N x) (assign 0 a None x) ∷ []
statements N off (merge s a b x) = under N (clock_of N x) (select s a b x) ∷ []
statements N off (choose s a b x) = under N (clock_of N x) (select s a b x) ∷ []
statements N off (delay l a x) = under N (clock_of N x) (assign 0 a None x) ∷ []
statements N off (call g r ops gs) = restart_statements N g off r ++ under N (call_clock N gs) (step g off ops gs) ∷ []

-- a step block has the statements of the equations in the order of execution
abbrev pub step_statements : List ℕ → Node → List ℕ → List Statement
step_statements needs N [] = []
step_statements needs N (e ∷ es) = statements N (offset needs N e) (equation_at N e) ++ step_statements needs N es

-- a reset block sets each DELAY to its literal, and then resets each CALL
abbrev pub always : Action → Statement
always a = record { tests = []; action = a }

abbrev pub delay_reset : Equation → List Statement
delay_reset (operate op a b x) = []
delay_reset (sample a x) = []
delay_reset (merge s a b x) = []
delay_reset (choose s a b x) = []
delay_reset (delay l a x) = always (assign 0 (Constant l) None x) ∷ []
delay_reset (call g r ops gs) = []

abbrev pub call_reset : ℕ → Equation → List Statement
call_reset off (operate op a b x) = []
call_reset off (sample a x) = []
call_reset off (merge s a b x) = []
call_reset off (choose s a b x) = []
call_reset off (delay l a x) = []
call_reset off (call g r ops gs) = always (reset g off) ∷ []

-- of the first n equations, in the order of the table
abbrev pub delay_resets : Node → ℕ → List Statement
delay_resets N zero = []
delay_resets N (suc n) = delay_resets N n ++ delay_reset (equation_at N n)

abbrev pub call_resets : List ℕ → Node → ℕ → List Statement
call_resets needs N zero = []
call_resets needs N (suc n) = call_resets needs N n ++ call_reset (offset needs N n) (equation_at N n)

abbrev pub reset_statements : List ℕ → Node → List Statement
reset_statements needs N = delay_resets N (equation_count N) ++ call_resets needs N (equation_count N)
