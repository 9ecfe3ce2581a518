-- The rule of definitions.
use Rattle.std.specs.Prelude.{ℕ, ◌+◌, Bool, true, false, cond, not, ◌&&◌, ◌||◌, List, [], ◌∷◌, ◌==◌, nat_lt}
use Rattle.table.specs.Syntax.{Equation, operate, sample, merge, choose, delay, call, Node}

-- the variables that an equation defines
abbrev pub defined : Equation → List ℕ
defined (operate op a b x) = x ∷ []
defined (sample a x) = x ∷ []
defined (merge s a b x) = x ∷ []
defined (choose s a b x) = x ∷ []
defined (delay l a x) = x ∷ []
defined (call g r ops gs) = gs

abbrev pub is_delay : Equation → Bool
is_delay (operate op a b x) = false
is_delay (sample a x) = false
is_delay (merge s a b x) = false
is_delay (choose s a b x) = false
is_delay (delay l a x) = true
is_delay (call g r ops gs) = false

abbrev pub is_in : ℕ → List ℕ → Bool
is_in x [] = false
is_in x (y ∷ l) = x == y || is_in x l

-- how often a variable stands in a list, and how often equations define it
abbrev pub times : ℕ → List ℕ → ℕ
times x [] = 0
times x (y ∷ l) = cond (x == y) 1 0 + times x l

abbrev pub definitions : ℕ → List Equation → ℕ
definitions x [] = 0
definitions x (e ∷ es) = times x (defined e) + definitions x es

abbrev pub delayed : ℕ → List Equation → Bool
delayed x [] = false
delayed x (e ∷ es) = (is_delay e && is_in x (defined e)) || delayed x es

-- an input is never defined, an output once and not by a DELAY, a local once
abbrev pub variable_defined : Node → ℕ → Bool
variable_defined N x =
    cond (nat_lt x N.inputs) (definitions x N.equations == 0)
    (definitions x N.equations == 1 && (not (nat_lt x (N.inputs + N.outputs)) || not (delayed x N.equations)))
