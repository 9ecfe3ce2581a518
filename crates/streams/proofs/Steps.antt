-- A machine's memory stays filled, and each of its instants is one.
use Rattle.std.proofs.Common.{◌≡◌, ℕ, zero, suc, ◌<◌, ◌≤◌, Bool, true, false, cond, eqb, List, length, take, is_some, Option, sym, refl, ap, ◌∙◌, subst, inl, inr, arith, length-take}
use Rattle.std.proofs.lemmas.Bool.{cases_Bool, cases_eq, and_parts, eq-eqb, ne_eqb}
use Rattle.std.proofs.lemmas.List.{get_or-take}
use Rattle.words.specs.declared.kinds.Operand.TheVariants.{Literal as Constant}
use Rattle.opset.specs.Meaning.{Meaning}
use Rattle.table.specs.Syntax.{Equation, operate, sample, merge, choose, delay, call, Node, Table, none, node_at, variable_count}
use Rattle.table.specs.Spelling.{EquationKeeps, NodeKeeps}
use Rattle.rules.specs.Types.{type_of, operand_has, has_value, equation_typed}
use Rattle.rules.specs.Clocks.{clock_of, call_clock}
use Rattle.rules.specs.Definitions.{is_in}
use Rattle.schedule.specs.Reads.{equation_at}
use Rattle.admission.specs.Keeps.{equation_count, KeepsNode, KeepsRules}
use Rattle.streams.specs.Streams.{Env, holds, value_of, restarted, handed}
use Rattle.streams.specs.History.{RowLong}
use Rattle.streams.specs.Machine.{Tree, delays, instances, Machine, shown, machine_of, machine_below, machine, first_delay, first_tree, next_delay, next_tree}
use Rattle.streams.specs.Instant.{OperandsPresent, FilledAt, FilledNode, FilledBelow, Filled, Instant, Steps}
use Rattle.streams.proofs.Uses.{uses}
use Rattle.streams.proofs.Facts.{keeps, uses_in, port_base, operand_in}
use Rattle.streams.proofs.Rank.{rank_of, ranked}
use Rattle.streams.proofs.Along.{along}
use Rattle.streams.proofs.Settled.{Idles, node_idles, shown_equation, shown_input, next_delay_lem, next_tree_lem}
use Rattle.streams.proofs.Present.{Behaves, either, entry_some, handed_long, looks, operands_here, given_present}

module _ {V : Type 0} (m : Meaning V) (T : Table) (C : ℕ → Machine V) (idles : (g : ℕ) → Idles (C g)) (R : ℕ → Tree V → Type 0) (earlier : Table)
    (same : (g : ℕ) → g < length earlier → node_at earlier g ≡ node_at T g)
    (behaves : (g : ℕ) → g < length earlier → Behaves (node_at T g) (C g) (R g))
    (N : Node) (L : NodeKeeps earlier N) (K : KeepsNode m earlier N) where
  shown_present : (M : Tree V) (vs : Option (List V)) → FilledNode R N M → RowLong N vs
      → (y : ℕ) → y < variable_count N → is_some (shown m T C N M vs y) ≡ holds m (is_some vs) (shown m T C N M vs) (clock_of N y)
  shown_present M vs full long =
      let E : Env V = shown m T C N M vs in
      along m earlier N L K (λ y. is_some (E y) ≡ holds m (is_some vs) E (clock_of N y))
      (λ x l. ap is_some (shown_input m T C idles N earlier L K (rank_of N K.ordered.0) (ranked m earlier N L K) M vs x l)
      ∙ entry_some m N vs x long l
      ∙ ap (holds m (is_some vs) E) (sym (port_base m earlier N L K x (omega arith))))
      (λ j y l i here. given_present m N (is_some vs) E T C R earlier same behaves (delays M j) (instances M j) (equation_at N j)
      (keeps m earlier N L K j l) (K.clocked_equations j l) (K.typed_equations j l) (full j l) here y i
      (shown_equation m T C idles N earlier L K (rank_of N K.ordered.0) (ranked m earlier N L K) M vs j y l i))

  looks_in : (busy : Bool) (E : Env V) (j : ℕ) → j < equation_count N → (e : Equation) → equation_at N j ≡ e → EquationKeeps earlier (variable_count N) e
      → (z : ℕ) → is_in z (looks m N busy E e) ≡ true → z < variable_count N
  looks_in busy E j l (operate op a b x) q k z i = uses_in m earlier N L K j z l (ap (λ e. is_in z (uses N e)) q ∙ i)
  looks_in busy E j l (sample a x) q k z i = uses_in m earlier N L K j z l (ap (λ e. is_in z (uses N e)) q ∙ i)
  looks_in busy E j l (merge s a b x) q k z i = uses_in m earlier N L K j z l (ap (λ e. is_in z (uses N e)) q ∙ i)
  looks_in busy E j l (choose s a b x) q k z i = uses_in m earlier N L K j z l (ap (λ e. is_in z (uses N e)) q ∙ i)
  looks_in busy E j l (delay v a x) q k z i = operand_in (variable_count N) a k.1 z i
  looks_in busy E j l (call g r ops gs) q k z i = uses_in m earlier N L K j z l (ap (λ e. is_in z (uses N e)) q ∙ i)

  -- no equation reads what is absent
  shown_operands : (M : Tree V) (vs : Option (List V)) → FilledNode R N M → RowLong N vs
      → (j : ℕ) → j < equation_count N → OperandsPresent m N (is_some vs) (shown m T C N M vs) (equation_at N j)
  shown_operands M vs full long j l =
      let E : Env V = shown m T C N M vs in
      operands_here m N (is_some vs) E earlier (equation_at N j) (K.clocked_equations j l) (K.typed_equations j l)
      (λ z i. shown_present M vs full long z (looks_in (is_some vs) E j l (equation_at N j) refl (keeps m earlier N L K j l) z i))

  -- each equation starts filled, and stays so
  first_filled : (e : Equation) → EquationKeeps earlier (variable_count N) e → equation_typed m earlier N e ≡ true → FilledAt R e (first_delay m T C e) (first_tree m T C e)
  first_filled (operate op a b x) k t = tt
  first_filled (sample a x) k t = tt
  first_filled (merge s a b x) k t = tt
  first_filled (choose s a b x) k t = tt
  first_filled (delay l a x) k t =
      let p = and_parts (operand_has m N (Constant l) (type_of N x)) (operand_has m N a (type_of N x)) t in
      (and_parts (has_value m l) (eqb l.ty (type_of N x)) p.0).0
  first_filled (call g r ops gs) k t = (behaves g k.0).starts

  next_filled : (busy : Bool) (E : Env V) (e : Equation) → EquationKeeps earlier (variable_count N) e → OperandsPresent m N busy E e
      → ((y : ℕ) → y < variable_count N → is_some (E y) ≡ holds m busy E (clock_of N y))
      → (d : Option V) (t : Tree V) → FilledAt R e d t → FilledAt R e (next_delay m T C e E d) (next_tree m T C N busy e E t)
  next_filled busy E (operate op a b x) k o here d t f = tt
  next_filled busy E (sample a x) k o here d t f = tt
  next_filled busy E (merge s a b x) k o here d t f = tt
  next_filled busy E (choose s a b x) k o here d t f = tt
  next_filled busy E (delay l a x) k o here d t f = go (is_some (E x)) refl
    where
      go : (b : Bool) → is_some (E x) ≡ b → is_some (cond b (value_of m E a) d) ≡ true
      go true q = o (sym (here x k.2) ∙ q)
      go false q = f
  next_filled busy E (call g r ops gs) k o here d t f =
      (behaves g k.0).stays (cond (restarted m r E) (C g).start t) (handed m busy E (call_clock N gs) ops)
      (either m N busy E T C R earlier same behaves d t (restarted m r E) g k.0 f)
      (handed_long m (node_at T g) busy E (call_clock N gs) ops (k.4 ∙ ap (λ (M : Node). M.inputs) (same g k.0)))

  pub node_starts : FilledNode R N (machine_of m T C N).start
  node_starts j l = first_filled (equation_at N j) (keeps m earlier N L K j l) (K.typed_equations j l)

  pub node_stays : (M : Tree V) (vs : Option (List V)) → FilledNode R N M → RowLong N vs → FilledNode R N ((machine_of m T C N).next M vs)
  node_stays M vs full long j l =
      let E : Env V = shown m T C N M vs in
      let f = next_filled (is_some vs) E (equation_at N j) (keeps m earlier N L K j l) (shown_operands M vs full long j l) (shown_present M vs full long)
      (delays M j) (instances M j) (full j l) in
      let g = subst (λ d. FilledAt R (equation_at N j) d (next_tree m T C N (is_some vs) (equation_at N j) E (instances M j))) (sym (next_delay_lem m T C idles N M vs j)) f in
      subst (λ t. FilledAt R (equation_at N j) (delays ((machine_of m T C N).next M vs) j) t) (sym (next_tree_lem m T C idles N M vs j)) g

  pub node_instant : (M : Tree V) (vs : Option (List V)) → FilledNode R N M → RowLong N vs
      → Instant m T C N M vs (shown m T C N M vs) ((machine_of m T C N).next M vs)
  node_instant M vs full long = record {
    inputs = shown_input m T C idles N earlier L K (rank_of N K.ordered.0) (ranked m earlier N L K) M vs;
    present = shown_present M vs full long;
    operands = shown_operands M vs full long;
    equations = shown_equation m T C idles N earlier L K (rank_of N K.ordered.0) (ranked m earlier N L K) M vs;
    delays = next_delay_lem m T C idles N M vs;
    instances = next_tree_lem m T C idles N M vs;
  }

  pub node_behaves : Behaves N (machine_of m T C N) (FilledNode R N)
  node_behaves = record {
    starts = node_starts;
    stays = node_stays;
    ports = λ M vs full long y l.
        shown_present M vs full long y (omega (arith, L.count.0))
        ∙ ap (holds m (is_some vs) (shown m T C N M vs)) (port_base m earlier N L K y l);
  }

module _ {V : Type 0} (m : Meaning V) (T : Table) where
  pub idles_below : (f g : ℕ) → Idles (machine_below m T f g)
  idles_below zero g = record { next = λ M. refl; shows = λ M y. refl }
  idles_below (suc f) g =
      elim (cases_Bool (eqb g f)) [
        | inl e ↦ rw e (node_idles m T (machine_below m T f) (idles_below f) (node_at T f))
        | inr e ↦ rw e (idles_below f g)
      ]

  -- the nodes that node f calls
  called_below : (f g : ℕ) → g < f → machine_below m T f g ≡ machine m T g
  called_below zero g h = absurd (omega arith)
  called_below (suc f) g h =
      elim (cases_eq g f) [
        | inl e ↦ rw (eq-eqb g f e, e) refl
        | inr n ↦ rw (ne_eqb g f n) (called_below f g (omega arith))
      ]

  filled_out : (f g : ℕ) → g < f → (M : Tree V) → FilledBelow T f g M → Filled T g M
  filled_out zero g h = absurd (omega arith)
  filled_out (suc f) g h =
      elim (cases_eq g f) [
        | inl e ↦ rw (eq-eqb g f e, e) (λ M k. k)
        | inr n ↦ rw (ne_eqb g f n) (filled_out f g (omega arith))
      ]

  filled_in : (f g : ℕ) → g < f → (M : Tree V) → Filled T g M → FilledBelow T f g M
  filled_in zero g h = absurd (omega arith)
  filled_in (suc f) g h =
      elim (cases_eq g f) [
        | inl e ↦ rw (eq-eqb g f e, e) (λ M k. k)
        | inr n ↦ rw (ne_eqb g f n) (filled_in f g (omega arith))
      ]

  -- the nodes behind which node f stands
  pub earlier_count : (f : ℕ) → f ≤ length T → length (take f T) ≡ f
  earlier_count f l = rw (length-take f T) (omega arith)

  pub earlier_same : (f g : ℕ) → f ≤ length T → g < length (take f T) → node_at (take f T) g ≡ node_at T g
  earlier_same f g l h = get_or-take f T g none (omega (arith, earlier_count f l))

  module _ (K : KeepsRules m T) where
    pub behaves_below : (f : ℕ) → f ≤ length T → (g : ℕ) → g < f → Behaves (node_at T g) (machine_below m T f g) (FilledBelow T f g)
    behaves_below zero l g h = absurd (omega arith)
    behaves_below (suc f) l g h =
        elim (cases_eq g f) [
          | inl e ↦ rw (eq-eqb g f e, e) (node_behaves m T (machine_below m T f) (idles_below f) (FilledBelow T f) (take f T)
              (λ k. earlier_same f k (omega arith)) (λ k q. behaves_below f (omega arith) k (omega (arith, earlier_count f (omega arith))))
              (node_at T f) (K.limits.nodes f (omega arith)) (K.nodes f (omega arith)))
          | inr n ↦ rw (ne_eqb g f n) (behaves_below f (omega arith) g (omega arith))
        ]

    pub steps : (k : ℕ) → k < length T → Steps m T k
    steps k l =
        let same : (g : ℕ) → g < length (take k T) → node_at (take k T) g ≡ node_at T g = λ g. earlier_same k g (omega arith) in
        let good : (g : ℕ) → g < length (take k T) → Behaves (node_at T g) (machine_below m T k g) (FilledBelow T k g) =
        λ g q. behaves_below k (omega arith) g (omega (arith, earlier_count k (omega arith))) in
        record {
          starts = node_starts m T (machine_below m T k) (idles_below k) (FilledBelow T k) (take k T) same good (node_at T k) (K.limits.nodes k l) (K.nodes k l);
          keeps = node_stays m T (machine_below m T k) (idles_below k) (FilledBelow T k) (take k T) same good (node_at T k) (K.limits.nodes k l) (K.nodes k l);
          instant = node_instant m T (machine_below m T k) (idles_below k) (FilledBelow T k) (take k T) same good (node_at T k) (K.limits.nodes k l) (K.nodes k l);
          called = called_below k;
          instance_filled = filled_out k;
          filled_instance = filled_in k;
        }
