-- What a node needs: room for its variables, and for the segment of each call.
use Rattle.std.proofs.Common.{◌≡◌, ℕ, zero, suc, ◌+◌, ◌<◌, ◌≤◌, List, [], ◌∷◌, length, get_or, take, sym, ap, ◌∙◌, arith}
use Rattle.std.proofs.lemmas.List.{length-take-le, get_or-take}
use Rattle.table.specs.Syntax.{Equation, Node, Table, node_at, variable_count, an_equation, equation_at, equation_count}
use Rattle.table.specs.Spelling.{KeepsLimits}
use Rattle.schedule.specs.Need.{call_need, calls_need, node_need, needs}
use Rattle.needs.proofs.Sums.{calls_same}
use Rattle.admission.proofs.Needed.{need_from}
use Rattle.code.specs.Statements.{offset}

abbrev pub need_of : Table → ℕ → ℕ
need_of T g = get_or (needs T) g 0

node_need_lem : (T : Table) → KeepsLimits T → (k : ℕ) → k < length T → need_of T k ≡ node_need (needs T) (node_at T k)
node_need_lem T limits k h =
    let N : Node = node_at T k in
    let z : 0 + k ≡ k = omega arith in
    ap (need_of T) (sym z) ∙ need_from [] T k h ∙ ap (λ j. node_need (take j (needs T)) N) z
    ∙ ap (λ n. variable_count N + n)
    (calls_same (take k (needs T)) (needs T) (take k T) (variable_count N) k N.equations (length-take-le k T (omega arith))
    (λ g l. get_or-take k (needs T) g 0 l) (limits.nodes k h).equations)

call_part : (ns : List ℕ) (es : List Equation) (e : ℕ) → e < length es → calls_need ns (take e es) + call_need ns (get_or es e an_equation) ≤ calls_need ns es
call_part ns [] e h = absurd (omega arith)
call_part ns (E ∷ es) zero h = omega arith
call_part ns (E ∷ es) (suc e) h = omega (arith, call_part ns es e (omega arith))

pub variables_fit : (T : Table) → KeepsLimits T → (k : ℕ) → k < length T → variable_count (node_at T k) ≤ need_of T k
variables_fit T limits k h = omega (arith, node_need_lem T limits k h)

pub call_fits : (T : Table) → KeepsLimits T → (k : ℕ) → k < length T → (e : ℕ) → e < equation_count (node_at T k)
    → offset (needs T) (node_at T k) e + call_need (needs T) (equation_at (node_at T k) e) ≤ need_of T k
call_fits T limits k h e l = omega (arith, node_need_lem T limits k h, call_part (needs T) (node_at T k).equations e l)

pub ports_fit : (T : Table) → KeepsLimits T → (k : ℕ) → k < length T → (node_at T k).inputs + (node_at T k).outputs ≤ need_of T k
ports_fit T limits k h = omega (arith, variables_fit T limits k h, (limits.nodes k h).count.0)
