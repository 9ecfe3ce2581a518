-- A step block on the way: each equation that has run keeps what it keeps next, and the others what they kept.
use Rattle.std.proofs.Common.{◌≡◌, ℕ, ◌+◌, ◌<◌, ◌≤◌, Bool, true, false, cond, not, ◌⊎◌, List, [], ◌∷◌, ◌++◌, length, Some, Option, sym, refl, ap, ◌∙◌, subst, subst₂, inl, inr, arith}
use Rattle.std.specs.List.{slice_get}
use Rattle.std.proofs.lemmas.Bool.{cases_eq, cases_lt, both_ways}
use Rattle.std.proofs.lemmas.List.{append-nil, append_assoc}
use Rattle.opset.specs.Meaning.{Meaning, Laws}
use Rattle.table.specs.Syntax.{Equation, operate, sample, merge, choose, delay, call, Node, Table, equation_at, equation_count}
use Rattle.rules.specs.Clocks.{clock_of}
use Rattle.rules.specs.Definitions.{defined, is_delay, is_in}
use Rattle.schedule.specs.Need.{needs}
use Rattle.schedule.specs.Reads.{before}
use Rattle.schedule.specs.Order.{Ready, Follows, Order}
use Rattle.schedule.proofs.Membership.{is_in_last, is_in_other}
use Rattle.streams.specs.Streams.{Env, holds}
use Rattle.streams.specs.Machine.{Tree, Machine, delays, instances, given, next_delay, next_tree}
use Rattle.streams.specs.Instant.{Instant, FilledNode}
use Rattle.streams.proofs.Places.{in_one}
use Rattle.streams.proofs.Present.{only_is}
use Rattle.code.specs.Statements.{statements, step_statements}
use Rattle.execution.specs.Cells.{Blocks}
use Rattle.execution.specs.Statements.{all_executed}
use Rattle.realization.specs.Holds.{HoldsAt, HoldsNode}
use Rattle.realization.proofs.Agree.{Agrees, some_of}
use Rattle.realization.proofs.Footprint.{Near, Does}
use Rattle.realization.proofs.Equations.{done, executed_append}
use Rattle.realization.proofs.Offsets.{offset_low, offset_up}
use Rattle.realization.proofs.Plan.{Plan, off, size, holds_local, near_far, out_far}
use Rattle.realization.proofs.Turns.{Closed, closed_more, Ripe, ripe}

module _ {V : Type 0} (m : Meaning V) (laws : Laws m) (T : Table) (B : Blocks V) (C : ℕ → Machine V) (R : ℕ → Env V → Tree V → Type 0)
    (Full : ℕ → Tree V → Type 0) (N : Node) (plan : Plan m T B C R Full N)
    (M : Tree V) (vs : List V) (E : Env V) (next : Tree V) (instant : Instant m T C N M (Some vs) E next) (full : FilledNode Full N M)
    (first : List V) (room : size m T B C R Full N ≤ length first) (entered : (x : ℕ) → x < N.inputs → slice_get first x ≡ slice_get vs x) where
  abbrev at : ℕ → ℕ
  at = off m T B C R Full N

  -- what equation e keeps in its cells, from d and t, once it has run and before; and once it has run, what it defines agrees
  abbrev KeptBy : ℕ → Option V → Tree V → Equation → Bool → Env V → Type 0
  KeptBy o d t e b w =
      HoldsAt R o w e (cond b (next_delay m T C e E d) d) (cond b (next_tree m T C N true e E t) t)
      × (b ≡ true → is_delay e ≡ false → (y : ℕ) → is_in y (defined e) ≡ true → Agrees E w y)

  abbrev pub Kept : ℕ → Bool → Env V → Type 0
  Kept j b w = KeptBy (at j) (delays M j) (instances M j) (equation_at N j) b w

  pub record Midway (ps : List ℕ) (cells : List V) : Type 0 where
    pub long : length cells ≡ length first
    pub outside : (a : ℕ) → (a < N.inputs) ⊎ (size m T B C R Full N ≤ a) → slice_get cells a ≡ slice_get first a
    pub kept : (j : ℕ) → j < equation_count N → Kept j (is_in j ps) (slice_get cells)

  -- the cell of a variable that can be read agrees
  pub ripe_agrees : (ps : List ℕ) (cells : List V) → Midway ps cells → (y : ℕ) → Ripe N ps y → Agrees E (slice_get cells) y
  ripe_agrees ps cells mid y (inl l) v e = mid.outside y (inl l) ∙ entered y l ∙ sym (instant.inputs y l) ∙ e
  ripe_agrees ps cells mid y (inr r) v e =
      go (equation_at N r.0) (is_in r.0 ps) (mid.kept r.0 r.1) r.2 r.3 (instant.equations r.0 y r.1 r.2)
    where
      go : (q : Equation) (b : Bool) → KeptBy (at r.0) (delays M r.0) (instances M r.0) q b (slice_get cells) → is_in y (defined q) ≡ true
          → b ≡ not (is_delay q) → E y ≡ given m T C N true (delays M r.0) (instances M r.0) q E y → slice_get cells y ≡ Some v
      go (operate op a c x) b k d i s = k.1 i refl y d v e
      go (sample a x) b k d i s = k.1 i refl y d v e
      go (merge p a c x) b k d i s = k.1 i refl y d v e
      go (choose p a c x) b k d i s = k.1 i refl y d v e
      go (delay l a x) b k d i s =
          ap (slice_get cells) (in_one y x d) ∙ k.0
          ∙ ap (λ c. cond c (next_delay m T C (delay l a x) E (delays M r.0)) (delays M r.0)) i
          ∙ only_is m (holds m true E (clock_of N x)) (delays M r.0) v (sym s ∙ e)
      go (call g q ops gs) b k d i s = k.1 i refl y d v e

  advance : (ps : List ℕ) (cells after : List V) (j : ℕ) → j < equation_count N → Midway ps cells
      → Does m T B C R Full N E (at j) (delays M j) (instances M j) (equation_at N j) cells after → Midway (ps ++ j ∷ []) after
  advance ps cells after j lj mid does = record {
    long = does.long ∙ mid.long;
    outside = λ a h. does.far a (out_far m T B C R Full N plan j a lj h) ∙ mid.outside a h;
    kept = λ i li. elim (cases_eq i j) [
      | inl e ↦ rw (e, is_in_last ps j) (does.next, λ _. does.agrees)
      | inr ne ↦
          let same : (a : ℕ) → Near T (at i) (equation_at N i) a → slice_get cells a ≡ slice_get after a =
          λ a q. sym (does.far a (near_far m T B C R Full N plan i j a li lj ne q)) in
          let old = mid.kept i li in
          rw (is_in_other i ps j ne) (
            holds_local m T B C R Full N (equation_at N i) (at i) (slice_get cells) (slice_get after) _ _ (plan.fits i li) same old.0,
            λ b p y d v e. sym (same y (inl d)) ∙ old.1 b p y d v e,
          )
    ];
  }

  turn : (ps : List ℕ) (cells : List V) (j : ℕ) → j < equation_count N → Closed N ps → Ready (before N) (equation_count N) ps j → Midway ps cells
      → Midway (ps ++ j ∷ []) (all_executed m B (statements N (at j) (equation_at N j)) cells)
  turn ps cells j lj closed ready mid =
      let up = offset_up (needs T) N j (equation_count N) lj lj in
      let was : Kept j false (slice_get cells) = subst (λ b. Kept j b (slice_get cells)) ready.fresh (mid.kept j lj) in
      advance ps cells _ j lj mid
      (done m laws T B C R Full N plan.reach E instant.present (at j) (delays M j) (instances M j) cells (offset_low (needs T) N j) (omega (arith, mid.long))
      (equation_at N j) (omega (arith, mid.long)) (λ y d. (plan.range j y lj d).1) (plan.fits j lj)
      (λ y i. let l = plan.reads j y lj i in (l, ripe_agrees ps cells mid y (ripe N plan.definer ps j lj closed ready y l i)))
      (instant.operands j lj) (λ y d. instant.equations j y lj d) (full j lj) was.0)

  -- equation after equation
  pub turns : (js ps : List ℕ) (cells : List V) → Follows (before N) (equation_count N) ps js → Closed N ps → Midway ps cells
      → Midway (ps ++ js) (all_executed m B (step_statements (needs T) N js) cells)
  turns [] ps cells follows closed mid = subst (λ qs. Midway qs cells) (sym (append-nil ps)) mid
  turns (j ∷ js) ps cells follows closed mid =
      let cells1 : List V = all_executed m B (statements N (at j) (equation_at N j)) cells in
      subst₂ Midway (append_assoc ps (j ∷ []) js)
      (sym (executed_append m B (statements N (at j) (equation_at N j)) (step_statements (needs T) N js) cells))
      (turns js (ps ++ j ∷ []) cells1 follows.2 (closed_more N ps j closed follows.1) (turn ps cells j follows.0 closed follows.1 mid))

  -- after all of them
  pub record NodeStep (after : List V) : Type 0 where
    pub long : length after ≡ length first
    pub outside : (a : ℕ) → (a < N.inputs) ⊎ (size m T B C R Full N ≤ a) → slice_get after a ≡ slice_get first a
    pub shows : (y : ℕ) → y < N.inputs + N.outputs → slice_get after y ≡ E y
    pub holds : HoldsNode R T N (slice_get after) next

  begun : HoldsNode R T N (slice_get first) M → Midway [] first
  begun held = record { long = refl; outside = λ a h. refl; kept = λ j l. (held j l, λ b. absurd (both_ways false refl b)) }

  module _ (os : List ℕ) (order : Order (before N) (equation_count N) os) where
    -- an input or an output can be read at the end
    port_ripe : (y : ℕ) → y < N.inputs + N.outputs → Ripe N os y
    port_ripe y l =
        elim (cases_lt y N.inputs) [
          | inl h ↦ inl h
          | inr h ↦
              let d = plan.definer y h (let r = plan.room in omega arith) in
              inr (d.0, d.1, d.2, order.all d.0 d.1 ∙ sym (ap not (plan.outputs d.0 y d.1 d.2 l)))
        ]

    ended : (after : List V) → Midway os after → NodeStep after
    ended after mid = record {
      long = mid.long;
      outside = mid.outside;
      shows = λ y l.
          let v = some_of (E y) (instant.present y (let r = plan.room in omega arith) ∙ ap (holds m true E) (plan.base y l)) in
          ripe_agrees os after mid y (port_ripe y l) v.0 v.1 ∙ sym v.1;
      holds = λ j l.
          let all : Kept j true (slice_get after) = subst (λ b. Kept j b (slice_get after)) (order.all j l) (mid.kept j l) in
          subst₂ (λ d t. HoldsAt R (at j) (slice_get after) (equation_at N j) d t) (sym (instant.delays j)) (sym (instant.instances j)) all.0;
    }

    pub node_step : HoldsNode R T N (slice_get first) M → NodeStep (all_executed m B (step_statements (needs T) N os) first)
    node_step held = ended _ (turns os [] first order.turns (λ i j h. absurd (both_ways false refl h)) (begun held))
