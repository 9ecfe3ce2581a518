-- Where a node first offends against each rule: the place of a word.
use Rattle.std.specs.Prelude.{ℕ, ◌+◌, take, Option}
use Rattle.std.specs.Option.{option_map}
use Rattle.opset.specs.Meaning.{Meaning}
use Rattle.table.specs.Syntax.{Table, node_at, variable_count, equation_at, equation_count}
use Rattle.table.specs.Spelling.{node_place, head_place}
use Rattle.rules.specs.First.{first_bad, or_else}
use Rattle.rules.specs.Types.{variable_typed, equation_typed}
use Rattle.rules.specs.Clocks.{variable_clocked, equation_clocked}
use Rattle.rules.specs.Definitions.{variable_defined}

-- the place of a VARIABLE, and of an equation's head
abbrev pub variable_place : Table → ℕ → ℕ → ℕ
variable_place T k x = node_place (take k T) + 1 + x

abbrev pub equation_place : Table → ℕ → ℕ → ℕ
equation_place T k e = head_place (take k T) (node_at T k) e

-- first the variables, then the equations
abbrev pub type_offence : {V : Type 0} → Meaning V → Table → ℕ → Option ℕ
type_offence m T k =
    or_else (option_map (variable_place T k) (first_bad (variable_typed m (node_at T k)) (variable_count (node_at T k))))
    (option_map (equation_place T k) (first_bad (λ e. equation_typed m (take k T) (node_at T k) (equation_at (node_at T k) e)) (equation_count (node_at T k))))

abbrev pub clock_offence : Table → ℕ → Option ℕ
clock_offence T k =
    or_else (option_map (variable_place T k) (first_bad (variable_clocked (node_at T k)) (variable_count (node_at T k))))
    (option_map (equation_place T k) (first_bad (λ e. equation_clocked (node_at T k) (equation_at (node_at T k) e)) (equation_count (node_at T k))))

-- the lowest variable that offends, whichever way it does
abbrev pub definition_offence : Table → ℕ → Option ℕ
definition_offence T k = option_map (variable_place T k) (first_bad (variable_defined (node_at T k)) (variable_count (node_at T k)))
