-- The statements of a table's nodes keep what its limits ask.
use Rattle.std.proofs.Common.{◌≡◌, ℕ, zero, suc, ◌+◌, ◌<◌, ◌≤◌, Bool, true, List, [], ◌∷◌, ◌++◌, length, get_or, take, Some, None, Option, sym, ap, subst, inl, inr, arith}
use Rattle.std.specs.List.{AllByRecursion}
use Rattle.std.proofs.lemmas.List.{length-take-le, get_or-take, get_or_past}
use Rattle.std.proofs.ByRecursion.{All-append, All-push, All-get_or}
use Rattle.std.proofs.lemmas.Bool.{cases_lt}
use Rattle.words.specs.declared.kinds.Clock.{Clock}
use Rattle.words.specs.declared.kinds.Clock.TheVariants.{Base, On}
use Rattle.words.specs.declared.kinds.Variable.{Variable}
use Rattle.table.specs.Syntax.{Equation, operate, sample, merge, choose, delay, call, Node, Table, none, node_at, variable_count, an_equation, equation_at, equation_count}
use Rattle.table.specs.Spelling.{ClockKeeps, VariableKeeps, RestartKeeps, EquationKeeps, KeepsLimits}
use Rattle.rules.specs.Clocks.{clock_of, call_clock}
use Rattle.schedule.specs.Need.{call_need, needs}
use Rattle.schedule.specs.Order.{Follows, Scheduled}
use Rattle.schedule.specs.Reads.{before}
use Rattle.schedule.proofs.Meant.{order_stands}
use Rattle.admission.specs.Verdict.{node_order}
use Rattle.code.specs.Statements.{Action, assign, select, step, Statement, tests_to, tests, under, offset, restart_statements, statements, step_statements, delay_reset, call_reset, delay_resets, call_resets, reset_statements}
use Rattle.code.specs.Code.{ordered}
use Rattle.layout.proofs.Kept.{TestKeeps, CallKeeps, ActionKeeps, StatementKeeps, BlockKeeps}
use Rattle.layout.proofs.Needed.{need_of, variables_fit, call_fits, ports_fit}

-- an order's numbers are those of equations
follows_below : (b : ℕ → ℕ → Bool) (n : ℕ) (ps os : List ℕ) → Follows b n ps os → AllByRecursion (λ j. j < n) os
follows_below b n ps [] f = tt
follows_below b n ps (j ∷ js) f = (f.0, follows_below b n (ps ++ j ∷ []) js f.2)

scheduled_below : (b : ℕ → ℕ → Bool) (n : ℕ) (r : Option (List ℕ)) → Scheduled b n r → AllByRecursion (λ j. j < n) (ordered r)
scheduled_below b n None s = tt
scheduled_below b n (Some os) s = follows_below b n [] os s.0.turns

-- past the last variable the clock is the base
clock_keeps : (N : Node) → AllByRecursion (VariableKeeps (variable_count N)) N.variables → (x : ℕ) → ClockKeeps (variable_count N) (clock_of N x)
clock_keeps N vs x =
    let past : Variable = record { ty = 0; clock = Base } in
    elim (cases_lt x (variable_count N)) [
      | inl l ↦ (All-get_or (VariableKeeps (variable_count N)) N.variables x past l vs).clock
      | inr l ↦ subst (λ (y : Variable). ClockKeeps (variable_count N) y.clock) (sym (get_or_past N.variables x past l)) tt
    ]

tests_keep : (d : ℕ) (N : Node) → AllByRecursion (VariableKeeps (variable_count N)) N.variables → (c : Clock) → ClockKeeps (variable_count N) c
    → AllByRecursion (TestKeeps (variable_count N)) (tests_to d N c)
tests_keep zero N vs c h = tt
tests_keep (suc d) N vs Base h = tt
tests_keep (suc d) N vs (On s sense) h =
    All-push (TestKeeps (variable_count N)) (tests_to d N (clock_of N s)) (record { variable = s; sense = sense })
    (tests_keep d N vs (clock_of N s) (clock_keeps N vs s)) h

module _ (T : Table) (limits : KeepsLimits T) (k : ℕ) (h : k < length T) where
  abbrev Keeps : Statement → Type 0
  Keeps = StatementKeeps (need_of T) k (variable_count (node_at T k))

  chain_keeps : (x : ℕ) → AllByRecursion (TestKeeps (variable_count (node_at T k))) (tests (node_at T k) (clock_of (node_at T k) x))
  chain_keeps x =
      let vs = (limits.nodes k h).variables in
      tests_keep 8 (node_at T k) vs (clock_of (node_at T k) x) (clock_keeps (node_at T k) vs x)

  under_keeps : (x : ℕ) (a : Action) → ActionKeeps (need_of T) k (variable_count (node_at T k)) a → Keeps (under (node_at T k) (clock_of (node_at T k) x) a)
  under_keeps x a p = record { tests = chain_keeps x; action = p }

  earlier : (g : ℕ) → g < length (take k T) → g < k
  earlier g l = omega (arith, length-take-le k T (omega arith))

  -- what is copied into and out of the segment of an earlier node
  copies_fit : (g : ℕ) → g < k → (i o : ℕ) → i ≡ (node_at (take k T) g).inputs → o ≡ (node_at (take k T) g).outputs → i + o ≤ need_of T g
  copies_fit g l i o p q =
      let e : node_at (take k T) g ≡ node_at T g = get_or-take k T g none l in
      omega (arith, p, q, ap (λ (N : Node). N.inputs) e, ap (λ (N : Node). N.outputs) e, ports_fit T limits g (omega arith))

  restart_keeps : (g off : ℕ) (r : Option ℕ) → RestartKeeps (variable_count (node_at T k)) r → CallKeeps (need_of T) k g off
      → AllByRecursion Keeps (restart_statements (node_at T k) g off r)
  restart_keeps g off None q c = tt
  restart_keeps g off (Some r) q c =
      let v = variable_count (node_at T k) in
      let chain = tests (node_at T k) (clock_of (node_at T k) r) in
      (record { tests = All-push (TestKeeps v) chain (record { variable = r; sense = true }) (chain_keeps r) q; action = c }, tt)

  equation_keeps : (off : ℕ) (e : Equation) → EquationKeeps (take k T) (variable_count (node_at T k)) e → off + call_need (needs T) e ≤ need_of T k
      → AllByRecursion Keeps (statements (node_at T k) off e)
  equation_keeps off (operate op a b x) q l = (under_keeps x (assign op a b x) q, tt)
  equation_keeps off (sample a x) q l = (under_keeps x (assign 0 a None x) (q.0, omega arith, q.1), tt)
  equation_keeps off (merge s a b x) q l = (under_keeps x (select s a b x) q, tt)
  equation_keeps off (choose s a b x) q l = (under_keeps x (select s a b x) q, tt)
  equation_keeps off (delay c a x) q l = (under_keeps x (assign 0 a None x) (q.1, omega arith, q.2), tt)
  equation_keeps off (call g r ops gs) q l =
      let c : CallKeeps (need_of T) k g off = (earlier g q.0, l) in
      All-push Keeps (restart_statements (node_at T k) g off r) (under (node_at T k) (call_clock (node_at T k) gs) (step g off ops gs))
      (restart_keeps g off r q.1 c)
      (under_keeps (get_or gs 0 0) (step g off ops gs) (c, q.2, q.3, copies_fit g c.0 (length ops) (length gs) q.4 q.5))

  equation_at_lem : (e : ℕ) → e < equation_count (node_at T k) → EquationKeeps (take k T) (variable_count (node_at T k)) (equation_at (node_at T k) e)
  equation_at_lem e l = All-get_or (EquationKeeps (take k T) (variable_count (node_at T k))) (node_at T k).equations e an_equation l (limits.nodes k h).equations

  steps_keep : (es : List ℕ) → AllByRecursion (λ e. e < equation_count (node_at T k)) es → AllByRecursion Keeps (step_statements (needs T) (node_at T k) es)
  steps_keep [] b = tt
  steps_keep (e ∷ es) b =
      All-append Keeps (statements (node_at T k) (offset (needs T) (node_at T k) e) (equation_at (node_at T k) e)) (step_statements (needs T) (node_at T k) es)
      (equation_keeps (offset (needs T) (node_at T k) e) (equation_at (node_at T k) e) (equation_at_lem e b.0) (call_fits T limits k h e b.0))
      (steps_keep es b.1)

  delay_keeps : (e : Equation) → EquationKeeps (take k T) (variable_count (node_at T k)) e → AllByRecursion Keeps (delay_reset e)
  delay_keeps (operate op a b x) q = tt
  delay_keeps (sample a x) q = tt
  delay_keeps (merge s a b x) q = tt
  delay_keeps (choose s a b x) q = tt
  delay_keeps (delay c a x) q = (record { tests = tt; action = (q.0, omega arith, q.2) }, tt)
  delay_keeps (call g r ops gs) q = tt

  call_keeps : (off : ℕ) (e : Equation) → EquationKeeps (take k T) (variable_count (node_at T k)) e → off + call_need (needs T) e ≤ need_of T k → AllByRecursion Keeps (call_reset off e)
  call_keeps off (operate op a b x) q l = tt
  call_keeps off (sample a x) q l = tt
  call_keeps off (merge s a b x) q l = tt
  call_keeps off (choose s a b x) q l = tt
  call_keeps off (delay c a x) q l = tt
  call_keeps off (call g r ops gs) q l = (record { tests = tt; action = (earlier g q.0, l) }, tt)

  delays_keep : (n : ℕ) → n ≤ equation_count (node_at T k) → AllByRecursion Keeps (delay_resets (node_at T k) n)
  delays_keep zero l = tt
  delays_keep (suc n) l =
      All-append Keeps (delay_resets (node_at T k) n) (delay_reset (equation_at (node_at T k) n)) (delays_keep n (omega arith))
      (delay_keeps (equation_at (node_at T k) n) (equation_at_lem n (omega arith)))

  calls_keep : (n : ℕ) → n ≤ equation_count (node_at T k) → AllByRecursion Keeps (call_resets (needs T) (node_at T k) n)
  calls_keep zero l = tt
  calls_keep (suc n) l =
      let off : ℕ = offset (needs T) (node_at T k) n in
      All-append Keeps (call_resets (needs T) (node_at T k) n) (call_reset off (equation_at (node_at T k) n)) (calls_keep n (omega arith))
      (call_keeps off (equation_at (node_at T k) n) (equation_at_lem n (omega arith)) (call_fits T limits k h n (omega arith)))

  block_keeps : need_of T k ≤ 4096 → (ss : List Statement) → AllByRecursion Keeps ss → BlockKeeps (need_of T) k (variable_count (node_at T k)) ss
  block_keeps small ss each = record {
    few = (limits.nodes k h).count.1;
    room = variables_fit T limits k h;
    node = omega (arith, limits.count.1);
    cells = small;
    each = each;
  }

  pub step_block_keeps : need_of T k ≤ 4096 → BlockKeeps (need_of T) k (variable_count (node_at T k)) (step_statements (needs T) (node_at T k) (ordered (node_order T k)))
  step_block_keeps small =
      let b = before (node_at T k) in
      let n = equation_count (node_at T k) in
      block_keeps small (step_statements (needs T) (node_at T k) (ordered (node_order T k)))
      (steps_keep (ordered (node_order T k)) (scheduled_below b n (node_order T k) (order_stands b n)))

  pub reset_block_keeps : need_of T k ≤ 4096 → BlockKeeps (need_of T) k (variable_count (node_at T k)) (reset_statements (needs T) (node_at T k))
  reset_block_keeps small =
      let n = equation_count (node_at T k) in
      block_keeps small (reset_statements (needs T) (node_at T k))
      (All-append Keeps (delay_resets (node_at T k) n) (call_resets (needs T) (node_at T k) n) (delays_keep n (omega arith)) (calls_keep n (omega arith)))
