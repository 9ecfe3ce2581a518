-- The rule of clocks.
use Rattle.std.specs.Prelude.{ℕ, zero, suc, ◌+◌, Bool, true, false, not, ◌&&◌, ◌||◌, List, [], ◌∷◌, Some, None, Option, ◌==◌, nat_lt, slice_index}
use Rattle.std.specs.Bool.{beq}
use Rattle.words.specs.declared.kinds.Clock.{Clock}
use Rattle.words.specs.declared.kinds.Clock.TheVariants.{Base, On}
use Rattle.words.specs.declared.kinds.Operand.{Operand}
use Rattle.words.specs.declared.kinds.Operand.TheVariants.{Take, Literal as Constant}
use Rattle.table.specs.Syntax.{Equation, operate, sample, merge, choose, delay, call, Node}
use Rattle.rules.specs.Types.{variable_at}

abbrev pub clock_of : Node → ℕ → Clock
clock_of N x = (variable_at N x).clock

abbrev pub same_clock : Clock → Clock → Bool
same_clock Base Base = true
same_clock Base (On y t) = false
same_clock (On x s) Base = false
same_clock (On x s) (On y t) = x == y && beq s t

-- a variable's chain is its sampler, that sampler's sampler and so on: it reaches the base within d samplers
abbrev pub reaches_by : (ℕ → Bool) → Clock → Bool
reaches_by k Base = true
reaches_by k (On s sense) = k s

abbrev pub reaches : ℕ → Node → ℕ → Bool
reaches zero N x = reaches_by (λ _. false) (clock_of N x)
reaches (suc d) N x = reaches_by (reaches d N) (clock_of N x)

-- the chain reaches the base within 8 samplers, and inputs and outputs are on the base
abbrev pub variable_clocked : Node → ℕ → Bool
variable_clocked N x = reaches 8 N x && (not (nat_lt x (N.inputs + N.outputs)) || same_clock (clock_of N x) Base)

-- a literal fits every clock
abbrev pub operand_on : Node → Clock → Operand → Bool
operand_on N c (Take x) = same_clock (clock_of N x) c
operand_on N c (Constant l) = true

abbrev pub second_on : Node → Clock → Option Operand → Bool
second_on N c None = true
second_on N c (Some b) = operand_on N c b

abbrev pub operands_on : Node → Clock → List Operand → Bool
operands_on N c [] = true
operands_on N c (a ∷ l) = operand_on N c a && operands_on N c l

abbrev pub gives_on : Node → Clock → List ℕ → Bool
gives_on N c [] = true
gives_on N c (x ∷ l) = same_clock (clock_of N x) c && gives_on N c l

-- SAMPLE defines a sampled variable, and its operand has the sampler's clock
abbrev pub sample_on : Node → Operand → Clock → Bool
sample_on N a Base = false
sample_on N a (On s sense) = operand_on N (clock_of N s) a

-- the clock of an equation is that of the variable it defines; all that a call gives have one
abbrev pub call_clock : Node → List ℕ → Clock
call_clock N gs = clock_of N (slice_index gs 0)

abbrev pub equation_clocked : Node → Equation → Bool
equation_clocked N (operate op a b x) = operand_on N (clock_of N x) a && second_on N (clock_of N x) b
equation_clocked N (sample a x) = sample_on N a (clock_of N x)
equation_clocked N (merge s a b x) =
    same_clock (clock_of N s) (clock_of N x) && (operand_on N (On s true) a && operand_on N (On s false) b)
equation_clocked N (choose s a b x) =
    same_clock (clock_of N s) (clock_of N x) && (operand_on N (clock_of N x) a && operand_on N (clock_of N x) b)
equation_clocked N (delay l a x) = operand_on N (clock_of N x) a
equation_clocked N (call g r ops gs) = operands_on N (call_clock N gs) ops && gives_on N (call_clock N gs) gs
