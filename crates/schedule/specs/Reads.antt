-- What an equation reads, and which equations come before which.
use Rattle.std.specs.Prelude.{ℕ, zero, suc, Bool, false, not, ◌&&◌, ◌||◌, List, [], ◌∷◌, ◌++◌, Some, None, Option, ◌==◌, slice_index}
use Rattle.words.specs.declared.kinds.Clock.{Clock}
use Rattle.words.specs.declared.kinds.Clock.TheVariants.{Base, On}
use Rattle.words.specs.declared.kinds.Operand.{Operand}
use Rattle.words.specs.declared.kinds.Operand.TheVariants.{Take, Literal as Constant}
use Rattle.table.specs.Syntax.{Equation, operate, sample, merge, choose, delay, call, Node}
pub use Rattle.table.specs.Syntax.{an_equation, equation_at}
use Rattle.rules.specs.Clocks.{clock_of}
use Rattle.rules.specs.Definitions.{defined, is_delay, is_in}

-- a variable's chain: its sampler, that sampler's sampler and so on, at most d of them
abbrev pub chain_by : (ℕ → List ℕ) → Clock → List ℕ
chain_by k Base = []
chain_by k (On s sense) = s ∷ k s

abbrev pub chain_to : ℕ → Node → ℕ → List ℕ
chain_to zero N x = []
chain_to (suc d) N x = chain_by (chain_to d N) (clock_of N x)

-- a chain that keeps the rule of clocks has at most 8
abbrev pub chain : Node → ℕ → List ℕ
chain N x = chain_to 8 N x

abbrev pub operand_reads : Operand → List ℕ
operand_reads (Take x) = x ∷ []
operand_reads (Constant l) = []

abbrev pub second_reads : Option Operand → List ℕ
second_reads None = []
second_reads (Some b) = operand_reads b

abbrev pub operands_read : List Operand → List ℕ
operands_read [] = []
operands_read (a ∷ l) = operand_reads a ++ operands_read l

-- the restart variable, and its chain
abbrev pub restart_reads : Node → Option ℕ → List ℕ
restart_reads N None = []
restart_reads N (Some r) = r ∷ chain N r

-- operand variables, selector, restart variable, the chain of the equation's clock, and that of the restart variable
abbrev pub reads : Node → Equation → List ℕ
reads N (operate op a b x) = operand_reads a ++ (second_reads b ++ chain N x)
reads N (sample a x) = operand_reads a ++ chain N x
reads N (merge s a b x) = s ∷ (operand_reads a ++ (operand_reads b ++ chain N x))
reads N (choose s a b x) = s ∷ (operand_reads a ++ (operand_reads b ++ chain N x))
reads N (delay l a x) = operand_reads a ++ chain N x
reads N (call g r ops gs) = operands_read ops ++ (restart_reads N r ++ chain N (slice_index gs 0))

abbrev pub meets : List ℕ → List ℕ → Bool
meets [] ys = false
meets (x ∷ xs) ys = is_in x ys || meets xs ys

-- e defines what f reads
abbrev pub feeds : Node → Equation → Equation → Bool
feeds N e f = meets (defined e) (reads N f)

-- Equation i comes before equation j: it defines what j reads and is no DELAY; or j is a DELAY whose variable it reads, another than itself.
abbrev pub before : Node → ℕ → ℕ → Bool
before N i j =
    (not (is_delay (equation_at N i)) && feeds N (equation_at N i) (equation_at N j)) ||
    (is_delay (equation_at N j) && (not (i == j) && feeds N (equation_at N j) (equation_at N i)))
