-- Which cells hold a machine's memory.
use Rattle.std.specs.Prelude.{◌≡◌, ℕ, zero, suc, ◌+◌, ◌<◌, cond, Option, ◌==◌}
use Rattle.table.specs.Syntax.{Equation, operate, sample, merge, choose, delay, call, Node, Table, node_at, equation_at, equation_count}
use Rattle.schedule.specs.Need.{needs}
use Rattle.code.specs.Statements.{offset}
use Rattle.streams.specs.Streams.{Env}
use Rattle.streams.specs.Machine.{Tree, delays, instances}

-- cells are seen by their numbers in a segment: a delay's value is in its variable's cell, an instance's memory in the call's segment
abbrev pub HoldsAt : {V : Type 0} → (ℕ → Env V → Tree V → Type 0) → ℕ → Env V → Equation → Option V → Tree V → Type 0
HoldsAt R off w (operate op a b x) d t = Unit {0}
HoldsAt R off w (sample a x) d t = Unit {0}
HoldsAt R off w (merge s a b x) d t = Unit {0}
HoldsAt R off w (choose s a b x) d t = Unit {0}
HoldsAt R off w (delay l a x) d t = w x ≡ d
HoldsAt R off w (call g r ops gs) d t = R g (λ a. w (off + a)) t

abbrev pub HoldsNode : {V : Type 0} → (ℕ → Env V → Tree V → Type 0) → Table → Node → Env V → Tree V → Type 0
HoldsNode R T N w M = (j : ℕ) → j < equation_count N → HoldsAt R (offset (needs T) N j) w (equation_at N j) (delays M j) (instances M j)

abbrev pub HoldsBelow : {V : Type 0} → Table → ℕ → ℕ → Env V → Tree V → Type 0
HoldsBelow T zero g w M = ⊥
HoldsBelow T (suc f) g w M = cond (g == f) (HoldsNode (HoldsBelow T f) T (node_at T f) w M) (HoldsBelow T f g w M)

-- the segment of an instance of node k
abbrev pub Holds : {V : Type 0} → Table → ℕ → Env V → Tree V → Type 0
Holds T k w M = HoldsNode (HoldsBelow T k) T (node_at T k) w M
