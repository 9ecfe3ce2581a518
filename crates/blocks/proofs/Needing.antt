-- The segments of a node's calls lie within what the node needs.
use Rattle.std.proofs.Common.{◌≡◌, ℕ, zero, suc, ◌+◌, ◌<◌, ◌≤◌, List, [], ◌∷◌, length, take, refl, arith}
use Rattle.std.proofs.ByRecursion.{All-get_or}
use Rattle.std.proofs.lemmas.List.{length-take-le}
use Rattle.table.specs.Syntax.{Equation, an_equation, equation_at, equation_count, node_at, variable_count}
use Rattle.table.specs.Spelling.{EquationKeeps}
use Rattle.table.specs.Decoding.{table_of}
use Rattle.schedule.specs.Need.{call_need, calls_need, needs}
use Rattle.needs.proofs.Sums.{call_same, calls_more}
use Rattle.admission.specs.declared.found.Plan.{Plan}
use Rattle.admission.specs.Planned.{Planned}
use Rattle.admission.proofs.Needed.{need_at_lem}
use Rattle.code.specs.Statements.{offset}

calls_part : (ns : List ℕ) (es : List Equation) (e : ℕ) → calls_need ns (take e es) ≤ calls_need ns es
calls_part ns es zero = omega arith
calls_part ns [] (suc e) = omega arith
calls_part ns (E ∷ es) (suc e) = omega (arith, calls_part ns es e)

module _ (ws : List ℕ) (p : Plan) (P : Planned ws p) (k : ℕ) (h : k < length (table_of ws)) where
  pub offset_small : (e : ℕ) → offset (needs (table_of ws)) (node_at (table_of ws) k) e ≤ 4096
  offset_small e =
      let T = table_of ws in
      omega (arith, calls_part (needs T) (node_at T k).equations e, need_at_lem ws p.outline P.described k h (needs T) (λ j l. refl), P.shape.need k h)

  pub offset_first : offset (needs (table_of ws)) (node_at (table_of ws) k) 0 ≡ variable_count (node_at (table_of ws) k)
  offset_first = omega arith

  -- behind the segment of an equation
  pub offset_more : (e : ℕ) → e < equation_count (node_at (table_of ws) k)
      → offset (needs (table_of ws)) (node_at (table_of ws) k) (e + 1)
      ≡ offset (needs (table_of ws)) (node_at (table_of ws) k) e + call_need p.needs (equation_at (node_at (table_of ws) k) e)
  offset_more e l =
      let T = table_of ws in
      let N = node_at T k in
      let K = P.described.spells.keeps.nodes k h in
      let keeps = All-get_or (EquationKeeps (take k T) (variable_count N)) N.equations e an_equation l K.equations in
      let same = call_same p.needs (needs T) (take k T) (variable_count N) k (equation_at N e) (length-take-le k T (omega arith))
      (λ g m. P.plans.needs g (omega arith)) keeps in
      omega (arith, calls_more (needs T) N.equations e l, same)
