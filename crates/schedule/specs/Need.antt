-- How many cells an instance of a node needs.
use Rattle.std.specs.Prelude.{ℕ, ◌+◌, List, [], ◌∷◌, ◌++◌, slice_index}
use Rattle.table.specs.Syntax.{Equation, operate, sample, merge, choose, delay, call, Node, Table, variable_count}

-- what the calls need, by the needs of the earlier nodes
abbrev pub call_need : List ℕ → Equation → ℕ
call_need needs (operate op a b x) = 0
call_need needs (sample a x) = 0
call_need needs (merge s a b x) = 0
call_need needs (choose s a b x) = 0
call_need needs (delay l a x) = 0
call_need needs (call g r ops gs) = slice_index needs g

abbrev pub calls_need : List ℕ → List Equation → ℕ
calls_need needs [] = 0
calls_need needs (e ∷ es) = call_need needs e + calls_need needs es

-- a node's variables, and the called node's need for each CALL
abbrev pub node_need : List ℕ → Node → ℕ
node_need needs N = variable_count N + calls_need needs N.equations

abbrev pub needs_from : List ℕ → Table → List ℕ
needs_from needs [] = needs
needs_from needs (N ∷ T) = needs_from (needs ++ node_need needs N ∷ []) T

-- the needs of a table's nodes, in their order
abbrev pub needs : Table → List ℕ
needs T = needs_from [] T
