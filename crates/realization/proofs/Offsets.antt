-- Where the segments of a node's calls lie.
use Rattle.std.proofs.Common.{◌≡◌, ℕ, zero, suc, ◌+◌, ◌<◌, ◌≤◌, List, [], ◌∷◌, length, get_or, take, refl, ap, arith}
use Rattle.table.specs.Syntax.{Equation, Node, variable_count, an_equation, equation_at, equation_count}
use Rattle.schedule.specs.Need.{call_need, calls_need, node_need}
use Rattle.code.specs.Statements.{offset}

calls_up : (ns : List ℕ) (es : List Equation) (i j : ℕ) → i < j → i < length es
    → calls_need ns (take i es) + call_need ns (get_or es i an_equation) ≤ calls_need ns (take j es)
calls_up ns [] i j l h = absurd (omega arith)
calls_up ns (e ∷ es) i zero l h = absurd (omega arith)
calls_up ns (e ∷ es) zero (suc j) l h = omega arith
calls_up ns (e ∷ es) (suc i) (suc j) l h = let q = calls_up ns es i j (omega arith) (omega arith) in omega arith

calls_all : (ns : List ℕ) (es : List Equation) → calls_need ns (take (length es) es) ≡ calls_need ns es
calls_all ns [] = refl
calls_all ns (e ∷ es) = ap (λ n. call_need ns e + n) (calls_all ns es)

module _ (ns : List ℕ) (N : Node) where
  -- behind the variables, one behind the other, and within what the node needs
  pub offset_low : (j : ℕ) → variable_count N ≤ offset ns N j
  offset_low j = omega arith

  pub offset_up : (i j : ℕ) → i < j → i < equation_count N → offset ns N i + call_need ns (equation_at N i) ≤ offset ns N j
  offset_up i j l h = let q = calls_up ns N.equations i j l h in omega arith

  pub offset_end : offset ns N (equation_count N) ≡ node_need ns N
  offset_end = ap (λ n. variable_count N + n) (calls_all ns N.equations)
