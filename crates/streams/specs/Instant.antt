-- What an instant of a machine is, equation by equation, with no word on how it is found. Assumes nothing.
use Rattle.std.specs.Prelude.{◌≡◌, ℕ, zero, suc, ◌<◌, Bool, true, false, cond, List, is_some, Option, ◌==◌}
use Rattle.opset.specs.Meaning.{Meaning}
use Rattle.table.specs.Syntax.{Equation, operate, sample, merge, choose, delay, call, Node, Table, node_at, variable_count}
use Rattle.rules.specs.Clocks.{clock_of, call_clock}
use Rattle.rules.specs.Definitions.{defined, is_in}
use Rattle.schedule.specs.Reads.{equation_at}
use Rattle.admission.specs.Keeps.{equation_count}
use Rattle.streams.specs.Streams.{Env, entry, sensed, holds, value_of, values_of, second_of}
use Rattle.streams.specs.History.{RowLong}
use Rattle.streams.specs.Machine.{Tree, delays as delays_of, instances as instances_of, Machine, given_at, next_delay, next_tree, machine_below, machine}

-- what an equation reads where its clock holds is present: of MERGE's operands the selected one
abbrev pub OperandsPresent : {V : Type 0} → Meaning V → Node → Bool → Env V → Equation → Type 0
OperandsPresent m N busy E (operate op a b x) =
    holds m busy E (clock_of N x) ≡ true → (is_some (value_of m E a) ≡ true) × (is_some (second_of m E b) ≡ true)
OperandsPresent m N busy E (sample a x) = holds m busy E (clock_of N x) ≡ true → is_some (value_of m E a) ≡ true
OperandsPresent m N busy E (merge s a b x) =
    holds m busy E (clock_of N x) ≡ true →
    (is_some (E s) ≡ true) × (sensed m (E s) true ≡ true → is_some (value_of m E a) ≡ true) × (sensed m (E s) false ≡ true → is_some (value_of m E b) ≡ true)
OperandsPresent m N busy E (choose s a b x) =
    holds m busy E (clock_of N x) ≡ true → (is_some (E s) ≡ true) × (is_some (value_of m E a) ≡ true) × (is_some (value_of m E b) ≡ true)
OperandsPresent m N busy E (delay l a x) = holds m busy E (clock_of N x) ≡ true → is_some (value_of m E a) ≡ true
OperandsPresent m N busy E (call g r ops gs) = holds m busy E (call_clock N gs) ≡ true → is_some (values_of m E ops) ≡ true

-- from memory M and a row: an instant E, and the next memory
pub record Instant {V : Type 0} (m : Meaning V) (T : Table) (C : ℕ → Machine V) (N : Node) (M : Tree V) (vs : Option (List V)) (E : Env V) (next : Tree V) : Type 0 where
  pub inputs : (x : ℕ) → x < N.inputs → E x ≡ entry vs x
  pub present : (x : ℕ) → x < variable_count N → is_some (E x) ≡ holds m (is_some vs) E (clock_of N x)
  pub operands : (j : ℕ) → j < equation_count N → OperandsPresent m N (is_some vs) E (equation_at N j)
  -- each variable is what its equation gives
  pub equations : (j y : ℕ) → j < equation_count N → is_in y (defined (equation_at N j)) ≡ true → E y ≡ given_at m T C N M vs j E y
  pub delays : (j : ℕ) → delays_of next j ≡ next_delay m T C (equation_at N j) E (delays_of M j)
  pub instances : (j : ℕ) → instances_of next j ≡ next_tree m T C N (is_some vs) (equation_at N j) E (instances_of M j)

-- a memory has a value for each delay, in its instances too
abbrev pub FilledAt : {V : Type 0} → (ℕ → Tree V → Type 0) → Equation → Option V → Tree V → Type 0
FilledAt R (operate op a b x) d t = Unit {0}
FilledAt R (sample a x) d t = Unit {0}
FilledAt R (merge s a b x) d t = Unit {0}
FilledAt R (choose s a b x) d t = Unit {0}
FilledAt R (delay l a x) d t = is_some d ≡ true
FilledAt R (call g r ops gs) d t = R g t

abbrev pub FilledNode : {V : Type 0} → (ℕ → Tree V → Type 0) → Node → Tree V → Type 0
FilledNode R N M = (j : ℕ) → j < equation_count N → FilledAt R (equation_at N j) (delays_of M j) (instances_of M j)

abbrev pub FilledBelow : {V : Type 0} → Table → ℕ → ℕ → Tree V → Type 0
FilledBelow T zero g = λ M. ⊥
FilledBelow T (suc f) g = cond (g == f) (FilledNode (FilledBelow T f) (node_at T f)) (FilledBelow T f g)

abbrev pub Filled : {V : Type 0} → Table → ℕ → Tree V → Type 0
Filled T k M = FilledNode (FilledBelow T k) (node_at T k) M

-- Node k starts with a filled memory, from a filled memory each row gives an instant and a filled memory, and the nodes that it calls are the earlier ones.
pub record Steps {V : Type 0} (m : Meaning V) (T : Table) (k : ℕ) : Type 0 where
  pub starts : Filled T k (machine m T k).start
  pub keeps : (M : Tree V) (vs : Option (List V)) → Filled T k M → RowLong (node_at T k) vs → Filled T k ((machine m T k).next M vs)
  pub instant : (M : Tree V) (vs : Option (List V)) → Filled T k M → RowLong (node_at T k) vs
      → Instant m T (machine_below m T k) (node_at T k) M vs ((machine m T k).shows M vs) ((machine m T k).next M vs)
  pub called : (g : ℕ) → g < k → machine_below m T k g ≡ machine m T g
  pub instance_filled : (g : ℕ) → g < k → (M : Tree V) → FilledBelow T k g M → Filled T g M
  pub filled_instance : (g : ℕ) → g < k → (M : Tree V) → Filled T g M → FilledBelow T k g M
