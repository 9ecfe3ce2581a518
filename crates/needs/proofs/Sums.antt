-- What the calls of a node need, one equation after another.
use Rattle.std.proofs.Common.{◌≡◌, ℕ, ◌+◌, ◌<◌, List, [], ◌∷◌, ◌++◌, length, get_or, take, refl, ap, ◌∙◌, arith}
use Rattle.std.specs.List.{AllByRecursion}
use Rattle.std.proofs.lemmas.List.{length-take-le, take_more}
use Rattle.table.specs.Syntax.{Equation, operate, sample, merge, choose, delay, call, Table, node_at, variable_count, an_equation}
use Rattle.table.specs.Spelling.{EquationKeeps, KeepsLimits}
use Rattle.schedule.specs.Need.{call_need, calls_need, node_need}

calls_push : (ns : List ℕ) (es : List Equation) (E : Equation) → calls_need ns (es ++ E ∷ []) ≡ calls_need ns es + call_need ns E
calls_push ns [] E = omega arith
calls_push ns (F ∷ es) E = omega (arith, calls_push ns es E)

pub calls_more : (ns : List ℕ) (es : List Equation) (e : ℕ) → e < length es → calls_need ns (take (e + 1) es) ≡ calls_need ns (take e es) + call_need ns (get_or es e an_equation)
calls_more ns es e l = ap (calls_need ns) (take_more es e an_equation l) ∙ calls_push ns (take e es) (get_or es e an_equation)

-- the needs of the earlier nodes alone count
pub call_same : (a b : List ℕ) (P : Table) (v k : ℕ) (E : Equation) → length P ≡ k → ((g : ℕ) → g < k → get_or a g 0 ≡ get_or b g 0) → EquationKeeps P v E → call_need a E ≡ call_need b E
call_same a b P v k (operate op x y z) n f q = refl
call_same a b P v k (sample x z) n f q = refl
call_same a b P v k (merge s x y z) n f q = refl
call_same a b P v k (choose s x y z) n f q = refl
call_same a b P v k (delay l x z) n f q = refl
call_same a b P v k (call g r ops gs) n f q = f g (omega (arith, q.0, n))

pub calls_same : (a b : List ℕ) (P : Table) (v k : ℕ) (es : List Equation) → length P ≡ k → ((g : ℕ) → g < k → get_or a g 0 ≡ get_or b g 0) → AllByRecursion (EquationKeeps P v) es → calls_need a es ≡ calls_need b es
calls_same a b P v k [] n f q = refl
calls_same a b P v k (E ∷ es) n f q = omega (arith, call_same a b P v k E n f q.0, calls_same a b P v k es n f q.1)

pub need_same : (T : Table) → KeepsLimits T → (k : ℕ) → k < length T → (a b : List ℕ) → ((g : ℕ) → g < k → get_or a g 0 ≡ get_or b g 0)
    → node_need a (node_at T k) ≡ node_need b (node_at T k)
need_same T L k h a b f =
    let N = node_at T k in
    ap (λ n. variable_count N + n)
    (calls_same a b (take k T) (variable_count N) k N.equations (length-take-le k T (omega arith)) f (L.nodes k h).equations)
