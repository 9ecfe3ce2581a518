-- The streams of a machine meet its node.
use Rattle.std.proofs.Common.{◌≡◌, ℕ, zero, suc, ◌+◌, ◌<◌, ◌≤◌, Bool, true, false, cond, eqb, List, [], length, get_or, take, is_some, Option, sym, refl, ap, ◌∙◌, inl, inr, arith}
use Rattle.std.proofs.lemmas.Bool.{cases_eq, eq-eqb, ne_eqb}
use Rattle.words.specs.declared.kinds.Literal.{Literal}
use Rattle.words.specs.declared.kinds.Operand.{Operand}
use Rattle.opset.specs.Meaning.{Meaning}
use Rattle.table.specs.Syntax.{Equation, operate, sample, merge, choose, delay, call, Node, Table, node_at, variable_count}
use Rattle.table.specs.Spelling.{EquationKeeps, NodeKeeps}
use Rattle.rules.specs.Clocks.{clock_of, call_clock}
use Rattle.rules.specs.Definitions.{defined, is_in}
use Rattle.schedule.specs.Reads.{equation_at}
use Rattle.admission.specs.Keeps.{equation_count, KeepsNode, KeepsRules}
use Rattle.streams.specs.Streams.{Streams, Rows, NodeMeaning, Is, only_if, held, masked, holds, literal_of, value_of, restarted, restarts, handed, Says, MeetsNode, MeetsBelow, Meets}
use Rattle.streams.specs.History.{RowLong}
use Rattle.streams.specs.Machine.{Tree, delays, instances, Machine, memory, run, place_of, given, machine_of, machine_below, machine, first_delay, first_tree, next_delay, next_tree}
use Rattle.streams.specs.Instant.{FilledNode, FilledBelow, Instant}
use Rattle.streams.proofs.Places.{in_head, is_in_lem}
use Rattle.streams.proofs.Facts.{keeps, give_once}
use Rattle.streams.proofs.Settled.{Idles}
use Rattle.streams.proofs.Present.{Behaves, only_is, handed_long}
use Rattle.streams.proofs.Masks.{instance_run}
use Rattle.streams.proofs.Steps.{node_starts, node_stays, node_instant, idles_below, behaves_below, earlier_count, earlier_same}

abbrev pub RowsLong : {V : Type 0} → Node → Rows V → Type 0
RowsLong N rows = (i : ℕ) → RowLong N (rows i)

only_long : {V : Type 0} (G : Node) (b : Bool) (vs : Option (List V)) → RowLong G vs → RowLong G (only_if b vs)
only_long G true vs h = h
only_long G false vs h = tt

-- rows of one count are as long as all
pub masked_long : {V : Type 0} (G : Node) (count : ℕ → ℕ) (k : ℕ) (rows : Rows V) → RowsLong G rows → RowsLong G (masked count k rows)
masked_long G count k rows h i = only_long G (eqb (count i) k) (rows i) (h i)

module _ {V : Type 0} (m : Meaning V) (T : Table) (C : ℕ → Machine V) (idles : (g : ℕ) → Idles (C g)) (R : ℕ → Tree V → Type 0) (earlier : Table)
    (same : (g : ℕ) → g < length earlier → node_at earlier g ≡ node_at T g)
    (behaves : (g : ℕ) → g < length earlier → Behaves (node_at T g) (C g) (R g))
    (N : Node) (L : NodeKeeps earlier N) (K : KeepsNode m earlier N) (rows : Rows V) (long : RowsLong N rows) where
  abbrev c : Machine V
  c = machine_of m T C N

  abbrev H : Streams V
  H = run c rows

  full : (i : ℕ) → FilledNode R N (memory c rows i)
  full zero = node_starts m T C idles R earlier same behaves N L K
  full (suc i) = node_stays m T C idles R earlier same behaves N L K (memory c rows i) (rows i) (full i) (long i)

  instant : (i : ℕ) → Instant m T C N (memory c rows i) (rows i) (H i) (memory c rows (suc i))
  instant i = node_instant m T C idles R earlier same behaves N L K (memory c rows i) (rows i) (full i) (long i)

  -- an equation gives its variable's value
  gives : (j : ℕ) → j < equation_count N → (e : Equation) → equation_at N j ≡ e → (i y : ℕ) → is_in y (defined e) ≡ true
      → H i y ≡ given m T C N (is_some (rows i)) (delays (memory c rows i) j) (instances (memory c rows i) j) e (H i) y
  gives j l e q i y d =
      (instant i).equations j y l (ap (λ e. is_in y (defined e)) q ∙ d)
      ∙ ap (λ e. given m T C N (is_some (rows i)) (delays (memory c rows i) j) (instances (memory c rows i) j) e (H i) y) q

  -- a delay holds what the streams say
  holds_on : (j : ℕ) (l : Literal) (a : Operand) (x : ℕ) → equation_at N j ≡ delay l a x
      → (i : ℕ) → delays (memory c rows i) j ≡ held (literal_of m l) (λ i. H i x) (λ i. value_of m (H i) a) i
  holds_on j l a x q zero = ap (first_delay m T C) q
  holds_on j l a x q (suc i) =
      (instant i).delays j ∙ ap (λ e. next_delay m T C e (H i) (delays (memory c rows i) j)) q
      ∙ ap (cond (is_some (H i x)) (value_of m (H i) a)) (holds_on j l a x q i)

  is : (x : ℕ) (n : ℕ) (f : ℕ → Option V) → ((i : ℕ) → H i x ≡ only_if (holds m (is_some (rows i)) (H i) (clock_of N x)) (f i)) → Is n H x f
  is x n f h i v l e = only_is m (holds m (is_some (rows i)) (H i) (clock_of N x)) (f i) v (sym (h i) ∙ e)

  says : (M : ℕ → NodeMeaning V)
      → ((g : ℕ) → g < length earlier → (rows : Rows V) → RowsLong (node_at T g) rows → (n : ℕ) → M g rows n (run (C g) rows))
      → (n j : ℕ) → j < equation_count N → (e : Equation) → equation_at N j ≡ e → EquationKeeps earlier (variable_count N) e → Says m T M N rows n H e
  says M exist n j l (operate op a b x) q k = is x n _ (λ i. gives j l (operate op a b x) q i x (in_head x []))
  says M exist n j l (sample a x) q k = is x n _ (λ i. gives j l (sample a x) q i x (in_head x []))
  says M exist n j l (merge s a b x) q k = is x n _ (λ i. gives j l (merge s a b x) q i x (in_head x []))
  says M exist n j l (choose s a b x) q k = is x n _ (λ i. gives j l (choose s a b x) q i x (in_head x []))
  says M exist n j l (delay v a x) q k = is x n _ (λ i.
      gives j l (delay v a x) q i x (in_head x [])
      ∙ ap (only_if (holds m (is_some (rows i)) (H i) (clock_of N x))) (holds_on j v a x q i))
  says M exist n j l (call g r ops gs) q kept = λ k.
      let rs : ℕ → Bool = λ i. restarted m r (H i) in
      let hs : Rows V = λ i. handed m (is_some (rows i)) (H i) (call_clock N gs) ops in
      let G : Node = node_at T g in
      let fit : length ops ≡ G.inputs = kept.4 ∙ ap (λ (M : Node). M.inputs) (same g kept.0) in (
        run (C g) (masked (restarts m r H) k hs),
        exist g kept.0 (masked (restarts m r H) k hs)
            (masked_long G (restarts m r H) k hs (λ i. handed_long m G (is_some (rows i)) (H i) (call_clock N gs) ops fit)) n,
        λ i p lt ck pl.
            let y : ℕ = get_or gs p 0 in
            let at : place_of y gs ≡ p = give_once m earlier N L K j g r ops gs l q p pl in
            let w = instance_run (C g) (idles g) rs hs (λ i. instances (memory c rows i) j) (ap (first_tree m T C) q)
            (λ i. (instant i).instances j ∙ ap (λ e. next_tree m T C N (is_some (rows i)) e (H i) (instances (memory c rows i) j)) q) k i ck (G.inputs + p) in
            gives j l (call g r ops gs) q i y (is_in_lem gs p pl)
            ∙ ap (λ p. (C g).shows (cond (rs i) (C g).start (instances (memory c rows i) j)) (hs i) (G.inputs + p)) at
            ∙ sym w,
      )

  pub node_meets : (M : ℕ → NodeMeaning V)
      → ((g : ℕ) → g < length earlier → (rows : Rows V) → RowsLong (node_at T g) rows → (n : ℕ) → M g rows n (run (C g) rows))
      → (n : ℕ) → MeetsNode m T M N rows n H
  node_meets M exist n = record {
    inputs = λ i x l h. (instant i).inputs x h;
    clocks = λ i x l h. (instant i).present x h;
    equations = λ j l. says M exist n j l (equation_at N j) refl (keeps m earlier N L K j l);
  }

module _ {V : Type 0} (m : Meaning V) (T : Table) (K : KeepsRules m T) where
  pub exists_below : (f : ℕ) → f ≤ length T → (g : ℕ) → g < f → (rows : Rows V) → RowsLong (node_at T g) rows
      → (n : ℕ) → MeetsBelow m T f g rows n (run (machine_below m T f g) rows)
  exists_below zero l g h = absurd (omega arith)
  exists_below (suc f) l g h =
      elim (cases_eq g f) [
        | inl e ↦ rw (eq-eqb g f e, e) (λ rows long. node_meets m T (machine_below m T f) (idles_below m T f) (FilledBelow T f) (take f T)
            (λ k. earlier_same m T f k (omega arith)) (λ k q. behaves_below m T K f (omega arith) k (omega (arith, earlier_count m T f (omega arith))))
            (node_at T f) (K.limits.nodes f (omega arith)) (K.nodes f (omega arith)) rows long (MeetsBelow m T f)
            (λ k q. exists_below f (omega arith) k (omega (arith, earlier_count m T f (omega arith)))))
        | inr n ↦ rw (ne_eqb g f n) (exists_below f (omega arith) g (omega arith))
      ]

  pub exists : (k : ℕ) → k < length T → (rows : Rows V) → RowsLong (node_at T k) rows → (n : ℕ) → Meets m T k rows n (run (machine m T k) rows)
  exists k l rows long n =
      node_meets m T (machine_below m T k) (idles_below m T k) (FilledBelow T k) (take k T)
      (λ g. earlier_same m T k g (omega arith)) (λ g q. behaves_below m T K k (omega arith) g (omega (arith, earlier_count m T k (omega arith))))
      (node_at T k) (K.limits.nodes k l) (K.nodes k l) rows long (MeetsBelow m T k)
      (λ g q. exists_below k (omega arith) g (omega (arith, earlier_count m T k (omega arith)))) n
