-- What a described table names is below 64.
use Rattle.std.proofs.Common.{◌≡◌, ℕ, ◌<◌, ◌≤◌, Bool, eqb, List, [], ◌∷◌, length, take, Some, None, Option, sym, ap, ◌∙◌, subst, inl, inr, arith}
use Rattle.std.specs.List.{AllByRecursion}
use Rattle.std.proofs.lemmas.List.{get_or_past}
use Rattle.std.proofs.ByRecursion.{All-get_or, All-weaker}
use Rattle.std.proofs.lemmas.Bool.{cases_Bool, cases_lt}
use Rattle.words.specs.declared.kinds.Clock.{Clock}
use Rattle.words.specs.declared.kinds.Clock.TheVariants.{Base, On}
use Rattle.words.specs.declared.kinds.Operand.{Operand}
use Rattle.words.specs.declared.kinds.Operand.TheVariants.{Take, Literal as Constant}
use Rattle.words.specs.Bits.{kind_of}
use Rattle.words.specs.Format.{operand_in}
use Rattle.reader.specs.declared.outline.Outline.{Outline}
use Rattle.table.specs.Syntax.{Equation, operate, sample, merge, choose, delay, call, Table, none, node_at, variable_count, equation_at, equation_count, an_equation}
use Rattle.table.specs.Spelling.{ClockKeeps, VariableKeeps, OperandKeeps, RestartKeeps, SecondKeeps, EquationKeeps}
use Rattle.table.specs.Decoding.{table_of}
use Rattle.table.specs.Access.{Described}
use Rattle.rules.specs.Clocks.{clock_of}
use Rattle.rules.specs.Definitions.{defined}
use Rattle.waits.specs.Members.{OperandSmall, RestartSmall, SecondSmall}

pub operand_in_small : (w : ℕ) → OperandSmall (operand_in w)
operand_in_small w =
    let b = eqb (kind_of w) 10 in
    elim (cases_Bool b) [ inl e ↦ rw e tt | inr e ↦ rw e (omega arith) ]

operand_small : (v : ℕ) (a : Operand) → v ≤ 64 → OperandKeeps v a → OperandSmall a
operand_small v (Take x) h k = omega arith
operand_small v (Constant l) h k = tt

second_small : (v op : ℕ) (b : Option Operand) → v ≤ 64 → SecondKeeps v op b → SecondSmall b
second_small v op None h k = tt
second_small v op (Some b) h k = operand_small v b h k.2

restart_small : (v : ℕ) (r : Option ℕ) → v ≤ 64 → RestartKeeps v r → RestartSmall r
restart_small v None h k = tt
restart_small v (Some r) h k = omega arith

-- what an equation names on its own; the operands and gives of a call are read from their words
abbrev pub EquationSmall : Equation → Type 0
EquationSmall (operate op a b x) = OperandSmall a × SecondSmall b
EquationSmall (sample a x) = OperandSmall a
EquationSmall (merge s a b x) = (s < 64) × OperandSmall a × OperandSmall b
EquationSmall (choose s a b x) = (s < 64) × OperandSmall a × OperandSmall b
EquationSmall (delay l a x) = OperandSmall a
EquationSmall (call g r ops gs) = RestartSmall r

keeps_small : (P : Table) (v : ℕ) (E : Equation) → v ≤ 64 → EquationKeeps P v E → EquationSmall E
keeps_small P v (operate op a b x) h k = (operand_small v a h k.0, second_small v op b h k.1)
keeps_small P v (sample a x) h k = operand_small v a h k.0
keeps_small P v (merge s a b x) h k = (omega (arith, k.0), operand_small v a h k.1, operand_small v b h k.2)
keeps_small P v (choose s a b x) h k = (omega (arith, k.0), operand_small v a h k.1, operand_small v b h k.2)
keeps_small P v (delay l a x) h k = operand_small v a h k.1
keeps_small P v (call g r ops gs) h k = restart_small v r h k.1

keeps_defined : (P : Table) (v : ℕ) (E : Equation) → EquationKeeps P v E → AllByRecursion (λ x. x < v) (defined E)
keeps_defined P v (operate op a b x) k = (k.2, tt)
keeps_defined P v (sample a x) k = (k.1, tt)
keeps_defined P v (merge s a b x) k = (k.3, tt)
keeps_defined P v (choose s a b x) k = (k.3, tt)
keeps_defined P v (delay l a x) k = (k.2, tt)
keeps_defined P v (call g r ops gs) k = k.3

clock_small : (v : ℕ) (c : Clock) (s : ℕ) (b : Bool) → c ≡ On s b → ClockKeeps v c → s < v
clock_small v c s b e k = let F : Clock → Type 0 = λ d. ClockKeeps v d in subst F e k

module _ (ws : List ℕ) (o : Outline) (d : Described ws o) where
  pub sampler_small : (k x s : ℕ) (b : Bool) → clock_of (node_at (table_of ws) k) x ≡ On s b → s < 64
  sampler_small k x s b e =
      let T = table_of ws in
      let N = node_at T k in
      elim (cases_lt k (length T)) [
        | inl h ↦
            let K = d.spells.keeps.nodes k h in
            elim (cases_lt x (variable_count N)) [
              | inl l ↦ omega (arith, clock_small (variable_count N) _ s b e (All-get_or (VariableKeeps (variable_count N)) N.variables x (record { ty = 0; clock = Base }) l K.variables).clock, K.count.1)
              | inr l ↦
                  let q : On s b ≡ Base = sym e ∙ ap (λ v. v.clock) (get_or_past N.variables x (record { ty = 0; clock = Base }) l) in
                  let z : ◌≡◌ {A = ℕ} 0 1 = cc in absurd (omega arith)
            ]
        | inr h ↦
            let q : On s b ≡ Base = sym e ∙ ap (λ M. clock_of M x) (get_or_past T k none h) in
            let z : ◌≡◌ {A = ℕ} 0 1 = cc in absurd (omega arith)
      ]

  pub inputs_few : (k : ℕ) → (node_at (table_of ws) k).inputs ≤ 16
  inputs_few k =
      let T = table_of ws in
      elim (cases_lt k (length T)) [
        | inl l ↦ (d.spells.keeps.nodes k l).inputs.1
        | inr l ↦ omega (arith, ap (λ N. N.inputs) (get_or_past T k none l))
      ]

  module _ (k : ℕ) (h : k < length (table_of ws)) where
    pub outputs_some : 1 ≤ (node_at (table_of ws) k).outputs
    outputs_some = (d.spells.keeps.nodes k h).outputs.0

    pub outputs_few : (node_at (table_of ws) k).outputs ≤ 16
    outputs_few = (d.spells.keeps.nodes k h).outputs.1

    pub equations_few : equation_count (node_at (table_of ws) k) ≤ 64
    equations_few = (d.spells.keeps.nodes k h).equation_count

    equation_keeps : (e : ℕ) → e < equation_count (node_at (table_of ws) k)
        → EquationKeeps (take k (table_of ws)) (variable_count (node_at (table_of ws) k)) (equation_at (node_at (table_of ws) k) e)
    equation_keeps e l =
        let T = table_of ws in
        let N = node_at T k in
        All-get_or (EquationKeeps (take k T) (variable_count N)) N.equations e an_equation l (d.spells.keeps.nodes k h).equations

    pub equation_small : (e : ℕ) → e < equation_count (node_at (table_of ws) k) → EquationSmall (equation_at (node_at (table_of ws) k) e)
    equation_small e l = keeps_small _ _ (equation_at (node_at (table_of ws) k) e) (d.spells.keeps.nodes k h).count.1 (equation_keeps e l)

    pub defined_small : (e : ℕ) → e < equation_count (node_at (table_of ws) k) → AllByRecursion (λ x. x < 64) (defined (equation_at (node_at (table_of ws) k) e))
    defined_small e l =
        let N = node_at (table_of ws) k in
        All-weaker (λ x. x < variable_count N) (λ x. x < 64) (λ x b. omega (arith, b, (d.spells.keeps.nodes k h).count.1)) (defined (equation_at N e))
        (keeps_defined _ _ (equation_at N e) (equation_keeps e l))

    -- the one variable that an equation defines
    pub one_small : (e : ℕ) → e < equation_count (node_at (table_of ws) k) → (x : ℕ) → defined (equation_at (node_at (table_of ws) k) e) ≡ x ∷ [] → x < 64
    one_small e l x q = let P : List ℕ → Type 0 = λ xs. AllByRecursion (λ y. y < 64) xs in (subst P q (defined_small e l)).0
