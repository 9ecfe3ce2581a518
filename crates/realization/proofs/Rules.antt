-- The rules give a node's plan.
use Rattle.std.proofs.Common.{◌≡◌, ℕ, zero, suc, ◌+◌, ◌<◌, Bool, true, false, cond, not, ◌&&◌, ◌||◌, eqb, ltb, List, [], ◌∷◌, ◌++◌, length, get_or, Some, None, Option, sym, refl, ap, ◌∙◌, inl, inr, arith}
use Rattle.std.proofs.lemmas.Bool.{cases_Bool, both_ways, and_parts, or_parts, not-true, ltb-false, lt-ltb, le-ltb}
use Rattle.words.specs.declared.kinds.Clock.{Clock}
use Rattle.words.specs.declared.kinds.Clock.TheVariants.{Base, On}
use Rattle.words.specs.declared.kinds.Operand.{Operand}
use Rattle.words.specs.declared.kinds.Operand.TheVariants.{Literal as Constant}
use Rattle.opset.specs.Meaning.{Meaning}
use Rattle.table.specs.Syntax.{Equation, operate, sample, merge, choose, delay, call, Node, Table, node_at, variable_count, an_equation, equation_at, equation_count}
use Rattle.table.specs.Spelling.{EquationKeeps, NodeKeeps}
use Rattle.rules.specs.Types.{type_of, operand_has, has_value, equation_typed}
use Rattle.rules.specs.Clocks.{clock_of}
use Rattle.rules.specs.Definitions.{defined, is_delay, is_in, times, definitions, delayed}
use Rattle.schedule.specs.Reads.{chain_by, chain_to, chain, operand_reads, second_reads, operands_read, restart_reads, reads}
use Rattle.admission.specs.Keeps.{KeepsNode}
use Rattle.streams.specs.Streams.{Env}
use Rattle.streams.specs.Machine.{Tree, Machine, definer}
use Rattle.streams.proofs.Places.{in_left, in_right, in_cases, defines_times}
use Rattle.streams.proofs.Uses.{sampler_of, restart_uses, uses}
use Rattle.streams.proofs.Facts.{sampler_in, reach, port_base, keeps, operand_in, uses_in, defines_in, defined_once, definer_is, no_input, has_definer}
use Rattle.execution.specs.Cells.{Blocks}
use Rattle.realization.proofs.Callee.{Callee}
use Rattle.realization.proofs.Footprint.{Fits}
use Rattle.realization.proofs.Plan.{Plan, Defines}

-- what is not delayed is defined by no delay
not_delayed : (y : ℕ) (es : List Equation) → delayed y es ≡ false → (j : ℕ) → j < length es
    → is_in y (defined (get_or es j an_equation)) ≡ true → is_delay (get_or es j an_equation) ≡ false
not_delayed y [] h j l d = absurd (omega arith)
not_delayed y (e ∷ es) h zero l d =
    let p = or_parts (is_delay e && is_in y (defined e)) (delayed y es) h in
    elim (cases_Bool (is_delay e)) [
      | inl q ↦ absurd (both_ways (is_delay e && is_in y (defined e)) p.0 (rw (q, d) refl))
      | inr q ↦ q
    ]
not_delayed y (e ∷ es) h (suc j) l d =
    not_delayed y es (or_parts (is_delay e && is_in y (defined e)) (delayed y es) h).1 j (omega arith) d

module _ {V : Type 0} (m : Meaning V) (earlier : Table) (N : Node) (L : NodeKeeps earlier N) (K : KeepsNode m earlier N) where
  no_delay : (j y : ℕ) → j < equation_count N → Defines N j y → y < N.inputs + N.outputs → is_delay (equation_at N j) ≡ false
  no_delay j y l d h =
      not_delayed y N.equations
      (go (ltb y N.inputs) (ltb y (N.inputs + N.outputs)) (delayed y N.equations) (eqb (definitions y N.equations) 0) (eqb (definitions y N.equations) 1)
      (K.defined y (defines_in m earlier N L K j y l d)) (no_input m earlier N L K j y l d) (lt-ltb y (N.inputs + N.outputs) h)) j l d
    where
      go : (i o late p q : Bool) → cond i p (q && (not o || not late)) ≡ true → i ≡ false → o ≡ true → late ≡ false
      go true o late p q h e f = absurd (both_ways true e refl)
      go false false late p q h e f = absurd (both_ways false refl f)
      go false true late p q h e f = not-true late (and_parts q (not late) h).1

  chain_in : (d x y : ℕ) → is_in y (chain_to d N x) ≡ true → y < variable_count N
  chain_in zero x y i = absurd (both_ways false refl i)
  chain_in (suc d) x y i = go (clock_of N x) (λ z. sampler_in m earlier N L K x z) (λ s. chain_in d s y) i
    where
      go : (c : Clock) → ((z : ℕ) → is_in z (sampler_of c) ≡ true → z < variable_count N) → ((s : ℕ) → is_in y (chain_to d N s) ≡ true → y < variable_count N)
          → is_in y (chain_by (chain_to d N) c) ≡ true → y < variable_count N
      go Base h k i = absurd (both_ways false refl i)
      go (On s b) h k i = elim (in_cases y (s ∷ []) (chain_to d N s) i) [ inl e ↦ h y e | inr e ↦ k s e ]

  restart_read : (r : Option ℕ) (y : ℕ) → (is_in y (restart_uses r) ≡ true → y < variable_count N) → is_in y (restart_reads N r) ≡ true → y < variable_count N
  restart_read None y h i = absurd (both_ways false refl i)
  restart_read (Some r) y h i = elim (in_cases y (r ∷ []) (chain N r) i) [ inl e ↦ h e | inr e ↦ chain_in 8 r y e ]

  select_read : (s : ℕ) (a b : Operand) (x y : ℕ)
      → (is_in y (s ∷ (operand_reads a ++ (operand_reads b ++ sampler_of (clock_of N x)))) ≡ true → y < variable_count N)
      → is_in y (s ∷ (operand_reads a ++ (operand_reads b ++ chain N x))) ≡ true → y < variable_count N
  select_read s a b x y used i =
      elim (in_cases y (s ∷ []) (operand_reads a ++ (operand_reads b ++ chain N x)) i) [
        | inl p ↦ used (in_left y (s ∷ []) _ p)
        | inr t ↦ elim (in_cases y (operand_reads a) (operand_reads b ++ chain N x) t) [
          | inl p ↦ used (in_right y (s ∷ []) _ (in_left y (operand_reads a) _ p))
          | inr u ↦ elim (in_cases y (operand_reads b) (chain N x) u) [
            | inl p ↦ used (in_right y (s ∷ []) _ (in_right y (operand_reads a) _ (in_left y (operand_reads b) _ p)))
            | inr c ↦ chain_in 8 x y c
          ]
        ]
      ]

  -- what an equation reads are variables of the node
  read_in : (e : Equation) (y : ℕ) → EquationKeeps earlier (variable_count N) e → (is_in y (uses N e) ≡ true → y < variable_count N)
      → is_in y (reads N e) ≡ true → y < variable_count N
  read_in (operate op a b x) y k used i =
      elim (in_cases y (operand_reads a) (second_reads b ++ chain N x) i) [
        | inl p ↦ used (in_left y (operand_reads a) _ p)
        | inr t ↦ elim (in_cases y (second_reads b) (chain N x) t) [
          | inl p ↦ used (in_right y (operand_reads a) _ (in_left y (second_reads b) _ p))
          | inr c ↦ chain_in 8 x y c
        ]
      ]
  read_in (sample a x) y k used i =
      elim (in_cases y (operand_reads a) (chain N x) i) [ inl p ↦ used (in_left y (operand_reads a) _ p) | inr c ↦ chain_in 8 x y c ]
  read_in (merge s a b x) y k used i = select_read s a b x y used i
  read_in (choose s a b x) y k used i = select_read s a b x y used i
  read_in (delay l a x) y k used i =
      elim (in_cases y (operand_reads a) (chain N x) i) [ inl p ↦ operand_in (variable_count N) a k.1 y p | inr c ↦ chain_in 8 x y c ]
  read_in (call g r ops gs) y k used i =
      elim (in_cases y (operands_read ops) (restart_reads N r ++ chain N (get_or gs 0 0)) i) [
        | inl p ↦ used (in_left y (operands_read ops) _ p)
        | inr t ↦ elim (in_cases y (restart_reads N r) (chain N (get_or gs 0 0)) t) [
          | inl p ↦ restart_read r y (λ q. used (in_right y (operands_read ops) _ (in_left y (restart_uses r) _ q))) p
          | inr c ↦ chain_in 8 (get_or gs 0 0) y c
        ]
      ]

  module _ (T : Table) (same : (g : ℕ) → g < length earlier → node_at earlier g ≡ node_at T g)
      (B : Blocks V) (C : ℕ → Machine V) (R : ℕ → Env V → Tree V → Type 0) (Full : ℕ → Tree V → Type 0)
      (callee : (g : ℕ) → g < length earlier → Callee T B C R Full g) where
    fitting : (j : ℕ) → j < equation_count N → (e : Equation) → equation_at N j ≡ e → EquationKeeps earlier (variable_count N) e → equation_typed m earlier N e ≡ true
        → Fits m T B C R Full e
    fitting j l (operate op a b x) q k ty = tt
    fitting j l (sample a x) q k ty = tt
    fitting j l (merge s a b x) q k ty = tt
    fitting j l (choose s a b x) q k ty = tt
    fitting j l (delay v a x) q k ty =
        let p = and_parts (operand_has m N (Constant v) (type_of N x)) (operand_has m N a (type_of N x)) ty in
        (and_parts (has_value m v) (eqb v.ty (type_of N x)) p.0).0
    fitting j l (call g r ops gs) q k ty = record {
      callee = callee g k.0;
      takes = k.4 ∙ ap (λ (G : Node). G.inputs) (same g k.0);
      gives = k.5 ∙ ap (λ (G : Node). G.outputs) (same g k.0);
      once = λ y i.
          let o = defined_once m earlier N L K y (defines_in m earlier N L K j y l (ap (λ e. is_in y (defined e)) q ∙ i)) in
          omega (arith, defines_times y N.equations j l, ap (λ e. times y (defined e)) q);
    }

    pub planned : Plan m T B C R Full N
    planned = record {
      room = L.count.0;
      range = λ j y l d. (ltb-false y N.inputs (no_input m earlier N L K j y l d), defines_in m earlier N L K j y l d);
      once = λ i j y li lj di dj. sym (definer_is m earlier N L K i y li di) ∙ definer_is m earlier N L K j y lj dj;
      definer = λ y g l. let q = has_definer m earlier N L K y l (le-ltb y N.inputs g) in (definer N y, q.0, q.1);
      outputs = no_delay;
      fits = λ j l. fitting j l (equation_at N j) refl (keeps m earlier N L K j l) (K.typed_equations j l);
      reads = λ j y l i. read_in (equation_at N j) y (keeps m earlier N L K j l) (uses_in m earlier N L K j y l) i;
      reach = reach m earlier N L K;
      base = port_base m earlier N L K;
    }
