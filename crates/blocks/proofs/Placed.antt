-- The order of a node's equations, place by place.
use Rattle.std.proofs.Common.{◌≡◌, ℕ, zero, suc, ◌+◌, ◌<◌, Bool, List, [], ◌∷◌, ◌++◌, length, get_or, Some, None, Option, sym, ap, ◌∙◌, subst, arith}
use Rattle.std.proofs.lemmas.List.{length_push, length-take, get_or-take}
use Rattle.table.specs.Syntax.{node_at, equation_count}
use Rattle.table.specs.Decoding.{table_of}
use Rattle.schedule.specs.declared.order.Order.{Order}
use Rattle.schedule.specs.Order.{Follows, Scheduled}
use Rattle.schedule.specs.Reads.{before}
use Rattle.schedule.specs.Found.{grow, grown, next_of, order_of}
use Rattle.schedule.specs.Placed.{sequence}
use Rattle.schedule.proofs.Meant.{order_stands}
use Rattle.rules.specs.Definitions.{is_in}
use Rattle.admission.specs.declared.found.Plan.{Plan}
use Rattle.admission.specs.Verdict.{node_order}
use Rattle.admission.specs.Admission.{no_places}
use Rattle.admission.specs.Planned.{Planned}
use Rattle.code.specs.Code.{ordered}
use Rattle.blocks.specs.Numbered.{placed}

module _ (b : ℕ → ℕ → Bool) (n : ℕ) where
  grown_size : (k : ℕ) → ((qs os : List ℕ) → grow b n k qs ≡ Some os → length os ≡ length qs + k)
      → (ps os : List ℕ) (o : Option ℕ) → grown (grow b n k) ps o ≡ Some os → length os ≡ length ps + suc k
  grown_size k go ps os None e = absurd (let z : ◌≡◌ {A = ℕ} 0 1 = cc in omega arith)
  grown_size k go ps os (Some j) e = omega (arith, go (ps ++ j ∷ []) os e, length_push ps j)

  grow_size : (k : ℕ) (ps os : List ℕ) → grow b n k ps ≡ Some os → length os ≡ length ps + k
  grow_size zero ps os e = let q : ps ≡ os = cc in omega (arith, ap length q)
  grow_size (suc k) ps os e = grown_size k (grow_size k) ps os (next_of b n (λ i. is_in i ps)) e

  order_size : (os : List ℕ) → order_of b n ≡ Some os → length os ≡ n
  order_size os e = omega (arith, grow_size n [] os e)

  follows_below : (ps js : List ℕ) → Follows b n ps js → (i : ℕ) → i < length js → get_or js i 0 < n
  follows_below ps [] f i h = absurd (omega arith)
  follows_below ps (j ∷ js) f zero h = f.0
  follows_below ps (j ∷ js) f (suc i) h = follows_below (ps ++ j ∷ []) js f.2 i (omega arith)

  order_below : (os : List ℕ) → order_of b n ≡ Some os → (i : ℕ) → i < length os → get_or os i 0 < n
  order_below os e i h =
      let F : Option (List ℕ) → Type 0 = λ r. Scheduled b n r in
      follows_below [] os (subst F e (order_stands b n)).0.turns i h

module _ (ws : List ℕ) (p : Plan) (P : Planned ws p) (k : ℕ) (h : k < length (table_of ws)) where
  abbrev plan_order : Order
  plan_order = get_or p.orders k no_places

  order_is : ordered (node_order (table_of ws) k) ≡ sequence plan_order
  order_is = ap ordered (P.plans.orders k h)

  pub order_long : length (ordered (node_order (table_of ws) k)) ≡ equation_count (node_at (table_of ws) k)
  order_long =
      let N = node_at (table_of ws) k in
      ap length order_is ∙ order_size (before N) (equation_count N) (sequence plan_order) (P.plans.orders k h)

  module _ (i : ℕ) (l : i < equation_count (node_at (table_of ws) k)) where
    in_sequence : i < length (sequence plan_order)
    in_sequence = omega (arith, l, order_long, ap length order_is)

    pub place_is : get_or plan_order.places i 0 ≡ placed (table_of ws) k i
    place_is =
        let o = plan_order in
        sym (ap (λ s. get_or s i 0) order_is ∙ get_or-take o.count o.places i 0 (omega (arith, in_sequence, length-take o.count o.places)))

    pub place_below : placed (table_of ws) k i < equation_count (node_at (table_of ws) k)
    place_below =
        let N = node_at (table_of ws) k in
        omega (arith, order_below (before N) (equation_count N) (sequence plan_order) (P.plans.orders k h) i in_sequence, ap (λ s. get_or s i 0) order_is)
