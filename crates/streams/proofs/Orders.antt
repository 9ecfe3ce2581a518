-- Streams that meet a table meet it with the equations of its nodes in any other order.
use Rattle.std.proofs.Common.{◌≡◌, ℕ, zero, suc, ◌+◌, ◌-◌, ◌<◌, eqb, List, [], ◌∷◌, length, get_or, is_some, sym, refl, ap, ◌∙◌, subst, inl, inr, arith}
use Rattle.std.proofs.lemmas.Bool.{cases_Bool, cases_lt}
use Rattle.std.proofs.lemmas.List.{get_or_past}
use Rattle.words.specs.declared.kinds.Clock.TheVariants.{Base}
use Rattle.words.specs.declared.kinds.Variable.{Variable}
use Rattle.opset.specs.Meaning.{Meaning}
use Rattle.table.specs.Syntax.{Equation, operate, sample, merge, choose, delay, call, Node, Table, none, node_at, variable_count}
use Rattle.schedule.specs.Reads.{equation_at, an_equation}
use Rattle.streams.specs.Streams.{Streams, Rows, NodeMeaning, holds, restarts, handed, masked, Says, MeetsNode, MeetsBelow, Meets}
use Rattle.streams.specs.History.{History, instants, row_at, count_at, main, MaskedStreams}
use Rattle.streams.specs.Reordered.{Permuted, nothing, behind, swap, and_then, ReorderedNode, Reordered}
use Rattle.streams.specs.Statements.{OrderFree}
use Rattle.streams.proofs.Histories.{streams_unique}

-- each equation of the one stands in the other
stands : {l k : List Equation} → Permuted l k → (j : ℕ) → j < length k → (i : ℕ) × (i < length l) × (get_or l i an_equation ≡ get_or k j an_equation)
stands nothing j h = absurd (omega arith)
stands (behind p) zero h = (0, omega arith, refl)
stands (behind p) (suc j) h = let q = stands p j (omega arith) in (suc q.0, omega arith, q.2)
stands swap zero h = (1, omega arith, refl)
stands swap (suc zero) h = (0, omega arith, refl)
stands swap (suc (suc j)) h = (suc (suc j), h, refl)
stands (and_then p q) j h =
    let b = stands q j h in
    let a = stands p b.0 b.1 in
    (a.0, a.1, a.2 ∙ b.2)

backward : {l k : List Equation} → Permuted l k → Permuted k l
backward nothing = nothing
backward (behind p) = behind (backward p)
backward swap = swap
backward (and_then p q) = and_then (backward q) (backward p)

itself : (l : List Equation) → Permuted l l
itself [] = nothing
itself (e ∷ l) = behind (itself l)

node_backward : {N N' : Node} → ReorderedNode N N' → ReorderedNode N' N
node_backward s = record
    { inputs = sym s.inputs; outputs = sym s.outputs; variables = sym s.variables; equations = backward s.equations }

table_backward : {T T' : Table} → Reordered T T' → Reordered T' T
table_backward s = record { count = sym s.count; nodes = λ k l. node_backward (s.nodes k (omega (arith, s.count))) }

node_itself : (N : Node) → ReorderedNode N N
node_itself N = record { inputs = refl; outputs = refl; variables = refl; equations = itself N.equations }

abbrev Maps : {V : Type 0} → (ℕ → NodeMeaning V) → (ℕ → NodeMeaning V) → Type 0
Maps {V} R R' = (g : ℕ) (rows : Rows V) (n : ℕ) (S : Streams V) → R g rows n S → R' g rows n S

module _ {V : Type 0} (m : Meaning V) (T T' : Table) (s : Reordered T T') where
  -- past the last node there is none in either
  at : (k : ℕ) → ReorderedNode (node_at T k) (node_at T' k)
  at k =
      elim (cases_lt k (length T)) [
        | inl l ↦ s.nodes k l
        | inr l ↦
            let p : node_at T k ≡ none = get_or_past T k none l in
            let q : node_at T' k ≡ none = get_or_past T' k none (omega (arith, s.count)) in
            subst (λ N. ReorderedNode N (node_at T' k)) (sym p) (subst (λ N. ReorderedNode none N) (sym q) (node_itself none))
      ]

  module _ (R R' : ℕ → NodeMeaning V) (maps : Maps R R') (N N' : Node) (same : N.variables ≡ N'.variables) (rows : Rows V) (n : ℕ) (H : Streams V) where
    moved : (e : Equation) → Says m T R N rows n H e → Says m T' R' N' rows n H e
    moved (operate op a b x) h = h
    moved (sample a x) h = h
    moved (merge s a b x) h = h
    moved (choose s a b x) h = h
    moved (delay l a x) h = h
    moved (call g r ops gs) h = λ k. (
      (h k).0,
      maps g _ n (h k).0
          (subst (λ (vs : List Variable). R g (masked (restarts m r H) k (λ i. handed m (is_some (rows i)) (H i) (get_or vs (get_or gs 0 0) (record { ty = 0; clock = Base })).clock ops)) n (h k).0)
          same (h k).1),
      λ i p l c pl. (h k).2 i p l c pl ∙ ap (λ q. (h k).0 i (q + p)) (at g).inputs,
    )

  node_moved : (R R' : ℕ → NodeMeaning V) → Maps R R' → (k : ℕ) (rows : Rows V) (n : ℕ) (H : Streams V)
      → MeetsNode m T R (node_at T k) rows n H → MeetsNode m T' R' (node_at T' k) rows n H
  node_moved R R' maps k rows n H h = record {
    inputs = λ i x il l. h.inputs i x il (omega (arith, (at k).inputs));
    clocks = λ i x il l.
        h.clocks i x il (omega (arith, ap length (at k).variables))
        ∙ ap (λ (vs : List Variable). holds m (is_some (rows i)) (H i) (get_or vs x (record { ty = 0; clock = Base })).clock) (at k).variables;
    equations = λ j l.
        let q = stands (at k).equations j l in
        subst (Says m T' R' (node_at T' k) rows n H) q.2
        (moved R R' maps (node_at T k) (node_at T' k) (at k).variables rows n H (equation_at (node_at T k) q.0) (h.equations q.0 q.1));
  }

  below_moved : (f : ℕ) → Maps (MeetsBelow m T f) (MeetsBelow m T' f)
  below_moved zero g = λ rows n S h. h
  below_moved (suc f) g =
      elim (cases_Bool (eqb g f)) [
        | inl e ↦ rw e (node_moved (MeetsBelow m T f) (MeetsBelow m T' f) (below_moved f) f)
        | inr e ↦ rw e (below_moved f g)
      ]

  pub meets_moved : (k : ℕ) (rows : Rows V) (n : ℕ) (H : Streams V) → Meets m T k rows n H → Meets m T' k rows n H
  meets_moved k = node_moved (MeetsBelow m T k) (MeetsBelow m T' k) (below_moved k) k

  -- masked streams, too
  masked_moved : (h : History V) (S : Streams V) → MaskedStreams m T h S → MaskedStreams m T' h S
  masked_moved h S a k =
      let e : main T ≡ main T' = ap (λ n. n - 1) s.count in
      let q = a k in (
        q.0,
        subst (λ j. Meets m T' j (masked (count_at h) k (row_at h)) (instants h) q.0) e (meets_moved (main T) (masked (count_at h) k (row_at h)) (instants h) q.0 q.1),
        λ i y il c yl. q.2 i y il c
            (subst (λ j. y < variable_count (node_at T j)) (sym e) (omega (arith, ap length (at (main T')).variables))),
      )

pub order_free : {V : Type 0} (m : Meaning V) (T T' : Table) → Reordered T T' → OrderFree m T T'
order_free m T T' s = record {
  meets = meets_moved m T T' s;
  back = meets_moved m T' T (table_backward s);
  same = λ K h S S' a b. (streams_unique m T K).masked h S S' a (masked_moved m T' T (table_backward s) h S' b);
}
