-- Rows decide the streams that meet a node, up to each instant.
use Rattle.std.proofs.Common.{◌≡◌, ℕ, zero, suc, ◌+◌, ◌<◌, ◌≤◌, Bool, true, false, eqb, [], ◌∷◌, ◌++◌, length, take, is_some, Some, None, Option, sym, refl, ap, ◌∙◌, ap₂, inl, inr, arith}
use Rattle.std.proofs.lemmas.Bool.{cases_eq, cases_Bool, eqb-true, eqb-false}
use Rattle.words.specs.declared.kinds.Clock.{Clock}
use Rattle.opset.specs.Meaning.{Meaning}
use Rattle.table.specs.Syntax.{Equation, operate, sample, merge, choose, delay, call, Node, Table, node_at, variable_count}
use Rattle.table.specs.Spelling.{EquationKeeps, NodeKeeps}
use Rattle.rules.specs.Clocks.{clock_of, call_clock}
use Rattle.rules.specs.Definitions.{defined, is_in}
use Rattle.schedule.specs.Reads.{operands_read, equation_at}
use Rattle.admission.specs.Keeps.{KeepsNode, KeepsRules}
use Rattle.streams.specs.Streams.{Streams, Rows, NodeMeaning, Is, only_if, entry, holds, literal_of, value_of, restarted, restarts, handed, Says, MeetsNode, MeetsBelow, Meets}
use Rattle.streams.specs.Machine.{place_of}
use Rattle.streams.proofs.Places.{below, in_one, placed}
use Rattle.streams.proofs.Uses.{sampler_of, restart_uses, uses}
use Rattle.streams.proofs.Facts.{keeps, uses_in, operand_in}
use Rattle.streams.proofs.Along.{along}
use Rattle.streams.proofs.Same.{Agree, agree_left, agree_right, value_same, holds_same, restarted_same, handed_same, meant_same, clock_used, held_same, count_same}
use Rattle.streams.proofs.Steps.{earlier_count, earlier_same}

-- streams of one meaning agree on the variables below v, up to each instant, where their rows do
abbrev pub Causal : {V : Type 0} → NodeMeaning V → ℕ → Type 0
Causal {V} M v = (rows rows' : Rows V) (n : ℕ) (H H' : Streams V) → M rows n H → M rows' n H'
    → (l : ℕ) → l ≤ n → ((i : ℕ) → i < l → rows i ≡ rows' i) → (i : ℕ) → i < l → (y : ℕ) → y < v → H i y ≡ H' i y

-- present where b says so, and there what o says
pub is_gated : {V : Type 0} (u o : Option V) (b : Bool) → is_some u ≡ b → ((v : V) → u ≡ Some v → o ≡ Some v) → u ≡ only_if b o
is_gated None o true e h = absurd (let z : ◌≡◌ {A = ℕ} 0 1 = cc in omega arith)
is_gated None o false e h = refl
is_gated (Some v) o true e h = sym (h v refl)
is_gated (Some v) o false e h = absurd (let z : ◌≡◌ {A = ℕ} 0 1 = cc in omega arith)

module _ {V : Type 0} (m : Meaning V) (T : Table) (R : ℕ → NodeMeaning V) (earlier : Table)
    (same : (g : ℕ) → g < length earlier → node_at earlier g ≡ node_at T g)
    (ports : (g : ℕ) → g < length earlier → (node_at T g).inputs + (node_at T g).outputs ≤ variable_count (node_at T g))
    (causal : (g : ℕ) → g < length earlier → Causal (R g) (variable_count (node_at T g)))
    (N : Node) (L : NodeKeeps earlier N) (K : KeepsNode m earlier N) (rows rows' : Rows V) (n : ℕ) (H H' : Streams V)
    (h : MeetsNode m T R N rows n H) (h' : MeetsNode m T R N rows' n H')
    (l : ℕ) (le : l ≤ n) (same_rows : (i : ℕ) → i < l → rows i ≡ rows' i) where
  module _ (i : ℕ) (il : i < l) (past : (j : ℕ) → j < i → (y : ℕ) → y < variable_count N → H j y ≡ H' j y) where
    gated : (x : ℕ) (f f' : ℕ → Option V) → Is n H x f → Is n H' x f' → x < variable_count N → Agree (H i) (H' i) (sampler_of (clock_of N x)) → f i ≡ f' i
        → (y : ℕ) → is_in y (x ∷ []) ≡ true → H i y ≡ H' i y
    gated x f f' s s' xl now e y d =
        let p = is_gated (H i x) (f i) (holds m (is_some (rows i)) (H i) (clock_of N x)) (h.clocks i x (omega arith) xl) (λ v. s i v (omega arith)) in
        let q = is_gated (H' i x) (f' i) (holds m (is_some (rows' i)) (H' i) (clock_of N x)) (h'.clocks i x (omega arith) xl) (λ v. s' i v (omega arith)) in
        let t = holds_same m (H i) (H' i) (is_some (rows i)) (is_some (rows' i)) (clock_of N x) (ap is_some (same_rows i il)) now in
        let w = in_one y x d in
        cc

    -- an equation decides what it defines
    one : (e : Equation) → EquationKeeps earlier (variable_count N) e → ((z : ℕ) → is_in z (uses N e) ≡ true → z < variable_count N)
        → Says m T R N rows n H e → Says m T R N rows' n H' e
        → Agree (H i) (H' i) (uses N e) → (y : ℕ) → is_in y (defined e) ≡ true → H i y ≡ H' i y
    one (operate op a b x) k u s s' now = gated x _ _ s s' k.2 (clock_used m (H i) (H' i) N (operate op a b x) now) (meant_same m (H i) (H' i) N None (operate op a b x) now)
    one (sample a x) k u s s' now = gated x _ _ s s' k.1 (clock_used m (H i) (H' i) N (sample a x) now) (meant_same m (H i) (H' i) N None (sample a x) now)
    one (merge c a b x) k u s s' now = gated x _ _ s s' k.3 (clock_used m (H i) (H' i) N (merge c a b x) now) (meant_same m (H i) (H' i) N None (merge c a b x) now)
    one (choose c a b x) k u s s' now = gated x _ _ s s' k.3 (clock_used m (H i) (H' i) N (choose c a b x) now) (meant_same m (H i) (H' i) N None (choose c a b x) now)
    one (delay v a x) k u s s' now =
        gated x _ _ s s' k.2 now
        (held_same (literal_of m v) (λ j. H j x) (λ j. H' j x) (λ j. value_of m (H j) a) (λ j. value_of m (H' j) a) i
        (λ j q. past j q x k.2) (λ j q. value_same m (H j) (H' j) a (λ z r. past j q z (operand_in (variable_count N) a k.1 z r))))
    one (call g r ops gs) kept u s s' now = λ y d.
        let c : Clock = call_clock N gs in
        let near : (j : ℕ) → j < suc i → Agree (H j) (H' j) (uses N (call g r ops gs)) =
        λ j q z w. elim (cases_eq j i) [ inl e ↦ rw e (now z w) | inr ne ↦ past j (omega arith) z (u z w) ] in
        let rest : (j : ℕ) → j < suc i → Agree (H j) (H' j) (restart_uses r ++ sampler_of c) = λ j q. agree_right (H j) (H' j) (operands_read ops) _ (near j q) in
        let rs : (j : ℕ) → j < suc i → restarted m r (H j) ≡ restarted m r (H' j) =
        λ j q. restarted_same m (H j) (H' j) r (agree_left (H j) (H' j) (restart_uses r) _ (rest j q)) in
        let cs : (j : ℕ) → j < suc i → restarts m r H j ≡ restarts m r H' j =
        λ j q. count_same (λ j. restarted m r (H j)) (λ j. restarted m r (H' j)) (suc j) (λ l w. rs l (omega arith)) in
        let hs : (j : ℕ) → j < suc i → handed m (is_some (rows j)) (H j) c ops ≡ handed m (is_some (rows' j)) (H' j) c ops =
        λ j q. handed_same m (H j) (H' j) (is_some (rows j)) (is_some (rows' j)) c ops (ap is_some (same_rows j (omega arith)))
        (agree_right (H j) (H' j) (restart_uses r) _ (rest j q)) (agree_left (H j) (H' j) (operands_read ops) _ (near j q)) in
        let k : ℕ = restarts m r H i in
        let at = placed y gs d in
        let G : Node = node_at T g in
        let wide : length gs ≡ G.outputs = kept.5 ∙ ap (λ (M : Node). M.outputs) (same g kept.0) in
        let agree = causal g kept.0 _ _ n (s k).0 (s' k).0 (s k).1 (s' k).1 (suc i) (omega arith)
        (λ j q. ap₂ (λ a b. only_if (eqb a k) b) (cs j q) (hs j q)) i (omega arith) (G.inputs + place_of y gs) (omega (arith, at.0, ports g kept.0)) in
        let p = (s k).2 i (place_of y gs) (omega arith) refl at.0 in
        let q = (s' k).2 i (place_of y gs) (omega arith) (sym (cs i (omega arith))) at.0 in
        let e = at.1 in
        ap (H i) (sym e) ∙ p ∙ agree ∙ sym q ∙ ap (H' i) e

    at_instant : (y : ℕ) → y < variable_count N → H i y ≡ H' i y
    at_instant =
        along m earlier N L K (λ y. H i y ≡ H' i y)
        (λ x xl. h.inputs i x (omega arith) xl ∙ ap (λ vs. entry vs x) (same_rows i il) ∙ sym (h'.inputs i x (omega arith) xl))
        (λ j y jl d now. one (equation_at N j) (keeps m earlier N L K j jl) (λ z. uses_in m earlier N L K j z jl)
        (h.equations j jl) (h'.equations j jl) now y d)

  pub agrees : (i : ℕ) → i < l → (y : ℕ) → y < variable_count N → H i y ≡ H' i y
  agrees i il =
      below (λ i. i < l → (y : ℕ) → y < variable_count N → H i y ≡ H' i y)
      (λ i past il. at_instant i il (λ j q. past j q (omega arith))) (suc i) i (omega arith) il

module _ {V : Type 0} (m : Meaning V) (T : Table) (K : KeepsRules m T) where
  node_causal : (f : ℕ) → f < length T → ((g : ℕ) → g < f → Causal (MeetsBelow m T f g) (variable_count (node_at T g)))
      → Causal (Meets m T f) (variable_count (node_at T f))
  node_causal f l more rows rows' n H H' h h' =
      agrees m T (MeetsBelow m T f) (take f T) (λ g. earlier_same m T f g (omega arith))
      (λ g q. (K.limits.nodes g (omega (arith, earlier_count m T f (omega arith)))).count.0)
      (λ g q. more g (omega (arith, earlier_count m T f (omega arith))))
      (node_at T f) (K.limits.nodes f l) (K.nodes f l) rows rows' n H H' h h'

  pub below_causal : (f : ℕ) → f ≤ length T → (g : ℕ) → g < f → Causal (MeetsBelow m T f g) (variable_count (node_at T g))
  below_causal zero l g h = absurd (omega arith)
  below_causal (suc f) l g h =
      elim (cases_Bool (eqb g f)) [
        | inl e ↦ rw (e, eqb-true g f e) (node_causal f (omega arith) (below_causal f (omega arith)))
        | inr e ↦ rw e (below_causal f (omega arith) g (omega (arith, eqb-false g f e)))
      ]

  pub unique : (k : ℕ) → k < length T → Causal (Meets m T k) (variable_count (node_at T k))
  unique k l = node_causal k l (below_causal k (omega arith))
