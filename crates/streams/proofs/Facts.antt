-- What the rules say of a node's variables and equations, by number.
use Rattle.std.proofs.Common.{◌≡◌, ℕ, ◌+◌, ◌<◌, ◌≤◌, Bool, true, false, cond, not, ◌&&◌, ◌||◌, eqb, ltb, List, [], ◌∷◌, ◌++◌, length, get_or, Some, None, Option, sym, refl, ap, ◌∙◌, subst, inl, inr, arith}
use Rattle.std.specs.List.{AllByRecursion}
use Rattle.std.proofs.lemmas.Bool.{eqb-true, and_parts, cases_Bool, cases_lt, both_ways, lt-ltb}
use Rattle.std.proofs.lemmas.List.{get_or_past}
use Rattle.std.proofs.ByRecursion.{All-get_or}
use Rattle.words.specs.declared.kinds.Clock.{Clock}
use Rattle.words.specs.declared.kinds.Clock.TheVariants.{Base, On}
use Rattle.words.specs.declared.kinds.Operand.{Operand}
use Rattle.words.specs.declared.kinds.Operand.TheVariants.{Take, Literal as Constant}
use Rattle.words.specs.declared.kinds.Variable.{Variable}
use Rattle.opset.specs.Meaning.{Meaning}
use Rattle.table.specs.Syntax.{Equation, operate, sample, merge, choose, delay, call, Node, Table, variable_count}
use Rattle.table.specs.Spelling.{ClockKeeps, VariableKeeps, OperandKeeps, SecondKeeps, RestartKeeps, EquationKeeps, NodeKeeps}
use Rattle.rules.specs.Clocks.{clock_of, same_clock, reaches, reaches_by, call_clock}
use Rattle.rules.specs.Definitions.{defined, is_in, times, definitions, delayed}
use Rattle.schedule.specs.Reads.{operand_reads, second_reads, operands_read, equation_at, an_equation}
use Rattle.admission.specs.Keeps.{equation_count, KeepsNode}
use Rattle.streams.specs.Machine.{definer, place_of}
use Rattle.streams.proofs.Places.{in_cases, in_one, in_times, is_in_lem, place_once, definer_found, definer_once, defines_times}
use Rattle.streams.proofs.Uses.{sampler_of, restart_uses, uses, equation_clock, same_clock_lem}

pub operand_in : (v : ℕ) (a : Operand) → OperandKeeps v a → (z : ℕ) → is_in z (operand_reads a) ≡ true → z < v
operand_in v (Take x) k z i = rw (in_one z x i) k
operand_in v (Constant l) k z i = absurd (both_ways false refl i)

second_in_lem : (v op : ℕ) (b : Option Operand) → SecondKeeps v op b → (z : ℕ) → is_in z (second_reads b) ≡ true → z < v
second_in_lem v op None k z i = absurd (both_ways false refl i)
second_in_lem v op (Some b) k z i = operand_in v b k.2 z i

operands_in_lem : (v : ℕ) (l : List Operand) → AllByRecursion (OperandKeeps v) l → (z : ℕ) → is_in z (operands_read l) ≡ true → z < v
operands_in_lem v [] k z i = absurd (both_ways false refl i)
operands_in_lem v (a ∷ l) k z i =
    elim (in_cases z (operand_reads a) (operands_read l) i) [ inl j ↦ operand_in v a k.0 z j | inr j ↦ operands_in_lem v l k.1 z j ]

restart_in_lem : (v : ℕ) (r : Option ℕ) → RestartKeeps v r → (z : ℕ) → is_in z (restart_uses r) ≡ true → z < v
restart_in_lem v None k z i = absurd (both_ways false refl i)
restart_in_lem v (Some r) k z i = rw (in_one z r i) k

all_in : (v : ℕ) (l : List ℕ) → AllByRecursion (λ x. x < v) l → (z : ℕ) → is_in z l ≡ true → z < v
all_in v [] k z i = absurd (both_ways false refl i)
all_in v (x ∷ l) k z i =
    elim (in_cases z (x ∷ []) l i) [ inl j ↦ rw (in_one z x j) k.0 | inr j ↦ all_in v l k.1 z j ]

module _ {V : Type 0} (m : Meaning V) (earlier : Table) (N : Node) (L : NodeKeeps earlier N) (K : KeepsNode m earlier N) where
  -- a variable past the last is on the base
  past : (y : ℕ) → variable_count N ≤ y → clock_of N y ≡ Base
  past y l = ap (λ (v : Variable). v.clock) (get_or_past N.variables y (record { ty = 0; clock = Base }) l)

  -- a sampler is a variable of the node
  pub sampler_in : (y z : ℕ) → is_in z (sampler_of (clock_of N y)) ≡ true → z < variable_count N
  sampler_in y z i =
      elim (cases_lt y (variable_count N)) [
        | inl l ↦ go (clock_of N y) (All-get_or (VariableKeeps (variable_count N)) N.variables y (record { ty = 0; clock = Base }) l L.variables).clock i
        | inr l ↦ absurd (both_ways false refl (subst (λ c. is_in z (sampler_of c) ≡ true) (past y l) i))
      ]
    where
      go : (c : Clock) → ClockKeeps (variable_count N) c → is_in z (sampler_of c) ≡ true → z < variable_count N
      go Base k i = absurd (both_ways false refl i)
      go (On s b) k i = rw (in_one z s i) k

  pub reach : (y : ℕ) → reaches 8 N y ≡ true
  reach y =
      elim (cases_lt y (variable_count N)) [
        | inl l ↦ (and_parts (reaches 8 N y) (not (ltb y (N.inputs + N.outputs)) || same_clock (clock_of N y) Base) (K.clocked y l)).0
        | inr l ↦ subst (λ c. reaches_by (reaches 7 N) c ≡ true) (sym (past y l)) refl
      ]

  -- inputs and outputs are on the base
  pub port_base : (y : ℕ) → y < N.inputs + N.outputs → clock_of N y ≡ Base
  port_base y l =
      let p = (and_parts (reaches 8 N y) (not (ltb y (N.inputs + N.outputs)) || same_clock (clock_of N y) Base) (K.clocked y (omega (arith, L.count.0)))).1 in
      same_clock_lem (clock_of N y) Base (subst (λ b. (not b || same_clock (clock_of N y) Base) ≡ true) (lt-ltb y (N.inputs + N.outputs) l) p)

  pub clock_reach : (e : Equation) → reaches_by (reaches 7 N) (equation_clock N e) ≡ true
  clock_reach (operate op a b x) = reach x
  clock_reach (sample a x) = reach x
  clock_reach (merge s a b x) = reach x
  clock_reach (choose s a b x) = reach x
  clock_reach (delay l a x) = reach x
  clock_reach (call g r ops gs) = reach (get_or gs 0 0)

  -- what an equation uses and defines are variables of the node
  pub keeps : (j : ℕ) → j < equation_count N → EquationKeeps earlier (variable_count N) (equation_at N j)
  keeps j l = All-get_or (EquationKeeps earlier (variable_count N)) N.equations j an_equation l L.equations

  use_in : (e : Equation) → EquationKeeps earlier (variable_count N) e → (z : ℕ) → is_in z (uses N e) ≡ true → z < variable_count N
  use_in (operate op a b x) k z i =
      elim (in_cases z (operand_reads a) (second_reads b ++ sampler_of (clock_of N x)) i) [
        | inl j ↦ operand_in _ a k.0 z j
        | inr t ↦ elim (in_cases z (second_reads b) (sampler_of (clock_of N x)) t) [ inl j ↦ second_in_lem _ op b k.1 z j | inr j ↦ sampler_in x z j ]
      ]
  use_in (sample a x) k z i =
      elim (in_cases z (operand_reads a) (sampler_of (clock_of N x)) i) [ inl j ↦ operand_in _ a k.0 z j | inr j ↦ sampler_in x z j ]
  use_in (merge s a b x) k z i =
      elim (in_cases z (s ∷ []) (operand_reads a ++ (operand_reads b ++ sampler_of (clock_of N x))) i) [
        | inl j ↦ rw (in_one z s j) k.0
        | inr t ↦ elim (in_cases z (operand_reads a) (operand_reads b ++ sampler_of (clock_of N x)) t) [
          | inl j ↦ operand_in _ a k.1 z j
          | inr u ↦ elim (in_cases z (operand_reads b) (sampler_of (clock_of N x)) u) [ inl j ↦ operand_in _ b k.2 z j | inr j ↦ sampler_in x z j ]
        ]
      ]
  use_in (choose s a b x) k z i =
      elim (in_cases z (s ∷ []) (operand_reads a ++ (operand_reads b ++ sampler_of (clock_of N x))) i) [
        | inl j ↦ rw (in_one z s j) k.0
        | inr t ↦ elim (in_cases z (operand_reads a) (operand_reads b ++ sampler_of (clock_of N x)) t) [
          | inl j ↦ operand_in _ a k.1 z j
          | inr u ↦ elim (in_cases z (operand_reads b) (sampler_of (clock_of N x)) u) [ inl j ↦ operand_in _ b k.2 z j | inr j ↦ sampler_in x z j ]
        ]
      ]
  use_in (delay l a x) k z i = sampler_in x z i
  use_in (call g r ops gs) k z i =
      elim (in_cases z (operands_read ops) (restart_uses r ++ sampler_of (call_clock N gs)) i) [
        | inl j ↦ operands_in_lem _ ops k.2 z j
        | inr t ↦ elim (in_cases z (restart_uses r) (sampler_of (call_clock N gs)) t) [
          | inl j ↦ restart_in_lem _ r k.1 z j
          | inr j ↦ sampler_in (get_or gs 0 0) z j
        ]
      ]

  pub uses_in : (j z : ℕ) → j < equation_count N → is_in z (uses N (equation_at N j)) ≡ true → z < variable_count N
  uses_in j z l i = use_in (equation_at N j) (keeps j l) z i

  define_in : (e : Equation) → EquationKeeps earlier (variable_count N) e → (y : ℕ) → is_in y (defined e) ≡ true → y < variable_count N
  define_in (operate op a b x) k y i = rw (in_one y x i) k.2
  define_in (sample a x) k y i = rw (in_one y x i) k.1
  define_in (merge s a b x) k y i = rw (in_one y x i) k.3
  define_in (choose s a b x) k y i = rw (in_one y x i) k.3
  define_in (delay l a x) k y i = rw (in_one y x i) k.2
  define_in (call g r ops gs) k y i = all_in _ gs k.3 y i

  pub defines_in : (j y : ℕ) → j < equation_count N → is_in y (defined (equation_at N j)) ≡ true → y < variable_count N
  defines_in j y l i = define_in (equation_at N j) (keeps j l) y i

  -- an input is never defined, another variable once
  abbrev Defined : Bool → ℕ → Type 0
  Defined true c = c ≡ 0
  Defined false c = c ≡ 1

  counted : (y : ℕ) → y < variable_count N → Defined (ltb y N.inputs) (definitions y N.equations)
  counted y l = go (ltb y N.inputs) (not (ltb y (N.inputs + N.outputs)) || not (delayed y N.equations)) (definitions y N.equations) (K.defined y l)
    where
      go : (b o : Bool) (c : ℕ) → cond b (eqb c 0) (eqb c 1 && o) ≡ true → Defined b c
      go true o c h = eqb-true c 0 h
      go false o c h = eqb-true c 1 (and_parts (eqb c 1) o h).0

  at_most : (b : Bool) (c : ℕ) → Defined b c → c ≤ 1
  at_most true c h = omega arith
  at_most false c h = omega arith

  pub defined_once : (y : ℕ) → y < variable_count N → definitions y N.equations ≤ 1
  defined_once y l = at_most (ltb y N.inputs) (definitions y N.equations) (counted y l)

  pub definer_is : (j y : ℕ) → j < equation_count N → is_in y (defined (equation_at N j)) ≡ true → definer N y ≡ j
  definer_is j y l i = definer_once y N.equations j (defined_once y (defines_in j y l i)) l i

  pub no_input : (j y : ℕ) → j < equation_count N → is_in y (defined (equation_at N j)) ≡ true → ltb y N.inputs ≡ false
  no_input j y l i =
      elim (cases_Bool (ltb y N.inputs)) [
        | inl t ↦
            let c : definitions y N.equations ≡ 0 = subst (λ b. Defined b (definitions y N.equations)) t (counted y (defines_in j y l i)) in
            absurd (let a = in_times y (defined (equation_at N j)) i in let b = defines_times y N.equations j l in omega arith)
        | inr f ↦ f
      ]

  pub has_definer : (y : ℕ) → y < variable_count N → ltb y N.inputs ≡ false
      → (definer N y < equation_count N) × (is_in y (defined (equation_at N (definer N y))) ≡ true)
  has_definer y l f =
      let c : definitions y N.equations ≡ 1 = subst (λ b. Defined b (definitions y N.equations)) f (counted y l) in
      definer_found y N.equations (omega arith)

  -- a call gives each of its variables once
  pub give_once : (j g : ℕ) (r : Option ℕ) (ops : List Operand) (gs : List ℕ) → j < equation_count N → equation_at N j ≡ call g r ops gs
      → (p : ℕ) → p < length gs → place_of (get_or gs p 0) gs ≡ p
  give_once j g r ops gs l q p pl =
      let y : ℕ = get_or gs p 0 in
      let once = defined_once y (defines_in j y l (ap (λ e. is_in y (defined e)) q ∙ is_in_lem gs p pl)) in
      place_once gs p pl (omega (arith, defines_times y N.equations j l, ap (λ e. times y (defined e)) q))
