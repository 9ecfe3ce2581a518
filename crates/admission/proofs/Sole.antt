-- What an admitted table is known to be, from the fact that it is: each part holds in one way only, or is found again.
use Rattle.std.proofs.Common.{◌≡◌, ℕ, ◌+◌, ◌<◌, ◌≤◌, Bool, true, List, [], ◌∷◌, length, get_or, take, is_some, Some, None, Option, unwrap_or, ap, subst, arith}
use mathlib.Core.Logic.{∥∥₁_elim}
use denote.Struct.Props.{props}
use Rattle.std.specs.List.{AllByRecursion}
use Rattle.words.specs.declared.kinds.Clock.{Clock}
use Rattle.words.specs.declared.kinds.Clock.TheVariants.{Base, On}
use Rattle.words.specs.declared.kinds.Literal.{Literal}
use Rattle.words.specs.declared.kinds.Operand.{Operand}
use Rattle.words.specs.declared.kinds.Operand.TheVariants.{Take, Literal as Constant}
use Rattle.words.specs.declared.kinds.Variable.{Variable}
use Rattle.reader.specs.declared.outline.Outline.{Outline}
use Rattle.table.specs.Syntax.{Equation, operate, sample, merge, choose, delay, call, Node, Table, node_at, variable_count, equation_count}
use Rattle.table.specs.Spelling.{spelled, ClockKeeps, VariableKeeps, LiteralKeeps, OperandKeeps, RestartKeeps, SecondKeeps, EquationKeeps, NodeKeeps, KeepsLimits, OutlinesNode, Outlines}
use Rattle.table.specs.Reading.{Spells}
use Rattle.table.specs.Decoding.{table_of}
use Rattle.table.specs.Access.{Described}
use Rattle.schedule.specs.Reads.{before}
use Rattle.schedule.specs.Need.{needs}
use Rattle.schedule.specs.Placed.{sequence}
use Rattle.schedule.proofs.Unique.{order_exists}
use Rattle.admission.specs.declared.found.Plan.{Plan}
use Rattle.admission.specs.Keeps.{KeepsNodeShape}
use Rattle.admission.specs.Verdict.{node_order}
use Rattle.admission.specs.Admission.{no_places, Plans}
use Rattle.admission.specs.Planned.{Planned}

all_sole : {X : Type 0} (P : X → Type 0) → ((x : X) → IsProp (P x)) → (xs : List X) → IsProp (AllByRecursion P xs)
all_sole P f [] = hlevel props
all_sole P f (x ∷ xs) = λ p q i. (f x p.0 q.0 i, all_sole P f xs p.1 q.1 i)

clock_sole : (v : ℕ) (c : Clock) → IsProp (ClockKeeps v c)
clock_sole v Base = hlevel props
clock_sole v (On sampler sense) = hlevel props

variable_sole : (v : ℕ) (x : Variable) → IsProp (VariableKeeps v x)
variable_sole v x p q =
    let ty : IsProp (x.ty < 16) = hlevel props in
    λ i. record { ty = ty p.ty q.ty i; clock = clock_sole v x.clock p.clock q.clock i }

literal_sole : (l : Literal) → IsProp (LiteralKeeps l)
literal_sole l p q =
    let ty : IsProp (l.ty < 16) = hlevel props in
    let payload : IsProp (l.payload < 16777216) = hlevel props in
    λ i. record { ty = ty p.ty q.ty i; payload = payload p.payload q.payload i }

operand_sole : (v : ℕ) (a : Operand) → IsProp (OperandKeeps v a)
operand_sole v (Take x) = hlevel props
operand_sole v (Constant l) = literal_sole l

restart_sole : (v : ℕ) (r : Option ℕ) → IsProp (RestartKeeps v r)
restart_sole v None = hlevel props
restart_sole v (Some r) = hlevel props

second_sole : (v op : ℕ) (b : Option Operand) → IsProp (SecondKeeps v op b)
second_sole v op None = hlevel props
second_sole v op (Some b) = hlevel (props, operand_sole)

equation_sole : (earlier : Table) (v : ℕ) (E : Equation) → IsProp (EquationKeeps earlier v E)
equation_sole earlier v (operate op a b x) = hlevel (props, operand_sole, second_sole)
equation_sole earlier v (sample a x) = hlevel (props, operand_sole)
equation_sole earlier v (merge s a b x) = hlevel (props, operand_sole)
equation_sole earlier v (choose s a b x) = hlevel (props, operand_sole)
equation_sole earlier v (delay l a x) = hlevel (props, operand_sole, literal_sole)
equation_sole earlier v (call g r ops gs) =
    let node : IsProp (g < length earlier) = hlevel props in
    let taken : IsProp (AllByRecursion (OperandKeeps v) ops) = all_sole (OperandKeeps v) (operand_sole v) ops in
    let given : IsProp (AllByRecursion (λ x. x < v) gs) = all_sole (λ x. x < v) (λ x. hlevel props) gs in
    let inputs : IsProp (length ops ≡ (node_at earlier g).inputs) = hlevel props in
    let outputs : IsProp (length gs ≡ (node_at earlier g).outputs) = hlevel props in
    λ p q i. (
      node p.0 q.0 i,
      restart_sole v r p.1 q.1 i,
      taken p.2 q.2 i,
      given p.3 q.3 i,
      inputs p.4 q.4 i,
      outputs p.5 q.5 i,
    )

node_sole : (earlier : Table) (N : Node) → IsProp (NodeKeeps earlier N)
node_sole earlier N p q =
    let inputs : IsProp ((1 ≤ N.inputs) × (N.inputs ≤ 16)) = hlevel props in
    let outputs : IsProp ((1 ≤ N.outputs) × (N.outputs ≤ 16)) = hlevel props in
    let count : IsProp ((N.inputs + N.outputs ≤ variable_count N) × (variable_count N ≤ 64)) = hlevel props in
    let most : IsProp (length N.equations ≤ 64) = hlevel props in
    let variables : IsProp (AllByRecursion (VariableKeeps (variable_count N)) N.variables) =
    all_sole (VariableKeeps (variable_count N)) (variable_sole (variable_count N)) N.variables in
    let equations : IsProp (AllByRecursion (EquationKeeps earlier (variable_count N)) N.equations) =
    all_sole (EquationKeeps earlier (variable_count N)) (equation_sole earlier (variable_count N)) N.equations in
    λ i. record {
      inputs = inputs p.inputs q.inputs i;
      outputs = outputs p.outputs q.outputs i;
      count = count p.count q.count i;
      variables = variables p.variables q.variables i;
      equation_count = most p.equation_count q.equation_count i;
      equations = equations p.equations q.equations i;
    }

limits_sole : (T : Table) → IsProp (KeepsLimits T)
limits_sole T p q =
    let count : IsProp ((1 ≤ length T) × (length T ≤ 32)) = hlevel props in
    λ i. record {
      count = count p.count q.count i;
      nodes = λ k h. node_sole (take k T) (node_at T k) (p.nodes k h) (q.nodes k h) i;
    }

outlined_sole : (earlier : Table) (N : Node) (k : ℕ) (o : Outline) → IsProp (OutlinesNode earlier N k o)
outlined_sole earlier N k o p q =
    let number : (a b : ℕ) → IsProp (a ≡ b) = λ a b. hlevel props in
    λ i. record {
      start = number _ _ p.start q.start i;
      inputs = number _ _ p.inputs q.inputs i;
      outputs = number _ _ p.outputs q.outputs i;
      equations = number _ _ p.equations q.equations i;
      heads = λ e h. number _ _ (p.heads e h) (q.heads e h) i;
    }

outlines_sole : (T : Table) (o : Outline) → IsProp (Outlines T o)
outlines_sole T o p q =
    let nodes : IsProp (o.nodes ≡ length T) = hlevel props in
    λ i. record {
      nodes = nodes p.nodes q.nodes i;
      each = λ k h. outlined_sole (take k T) (node_at T k) k o (p.each k h) (q.each k h) i;
    }

spells_sole : (own : ℕ) (ws : List ℕ) (o : Outline) → IsProp (Spells own ws o)
spells_sole own ws o p q =
    let words : IsProp (ws ≡ spelled own (table_of ws)) = hlevel props in
    let short : IsProp (length ws ≤ 16384) = hlevel props in
    λ i. record {
      words = words p.words q.words i;
      short = short p.short q.short i;
      keeps = limits_sole (table_of ws) p.keeps q.keeps i;
      outlines = outlines_sole (table_of ws) o p.outlines q.outlines i;
    }

-- the set that a table is written for is its first word
own_first : (ws : List ℕ) (o : Outline) (d : Described ws o) → d.own ≡ get_or ws 0 0
own_first ws o d =
    let head : get_or ws 0 0 ≡ 0 + d.own = ap (λ l. get_or l 0 0) d.spells.words in
    omega arith

by_first : (ws : List ℕ) (o : Outline) → Described ws o → Spells (get_or ws 0 0) ws o
by_first ws o d = let F : ℕ → Type 0 = λ own. Spells own ws o in subst F (own_first ws o d) d.spells

-- an order that is there, and which it is
some_of : (o : Option (List ℕ)) (xs : List ℕ) → is_some o ≡ true → unwrap_or o [] ≡ xs → o ≡ Some xs
some_of None xs a b = absurd (let z : ◌≡◌ {A = ℕ} 0 1 = cc in omega arith)
some_of (Some ys) xs a b = ap Some b

module _ (ws : List ℕ) (p : Plan) (t : ∥ Planned ws p ∥₁) where
  plans : Plans (table_of ws) p
  plans = record {
    orders = λ k h.
        let T = table_of ws in
        let xs = sequence (get_or p.orders k no_places) in
        let is : IsProp (is_some (node_order T k) ≡ true) = hlevel props in
        let which : IsProp (unwrap_or (node_order T k) [] ≡ xs) = hlevel props in
        some_of (node_order T k) xs (∥∥₁_elim t is (λ P. ap is_some (P.plans.orders k h)))
        (∥∥₁_elim t which (λ P. ap (λ o. unwrap_or o []) (P.plans.orders k h)));
    needs = λ k h. let is : IsProp (get_or p.needs k 0 ≡ get_or (needs (table_of ws)) k 0) = hlevel props in ∥∥₁_elim t is (λ P. P.plans.needs k h);
  }

  shape_at : (k : ℕ) → k < length (table_of ws) → KeepsNodeShape (node_at (table_of ws) k)
  shape_at k h =
      let N = node_at (table_of ws) k in
      let holds : (b : Bool) → IsProp (b ≡ true) = λ b. hlevel props in
      record {
        clocked = λ x l. ∥∥₁_elim t (holds _) (λ P. (P.shape.nodes k h).clocked x l);
        clocked_equations = λ e l. ∥∥₁_elim t (holds _) (λ P. (P.shape.nodes k h).clocked_equations e l);
        defined = λ x l. ∥∥₁_elim t (holds _) (λ P. (P.shape.nodes k h).defined x l);
        ordered = (order_exists (before N) (equation_count N)).exists (ap is_some (plans.orders k h));
      }

  -- whoever holds an admitted table has all that is known of it
  pub planned : Planned ws p
  planned = record {
    described = record { own = get_or ws 0 0; spells = ∥∥₁_elim t (spells_sole (get_or ws 0 0) ws p.outline) (λ P. by_first ws p.outline P.described) };
    plans = plans;
    shape = record {
      nodes = shape_at;
      need = λ k h. let few : IsProp (get_or (needs (table_of ws)) k 0 ≤ 4096) = hlevel props in ∥∥₁_elim t few (λ P. P.shape.need k h);
    };
  }
