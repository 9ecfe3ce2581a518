-- Which streams meet a node: clocked dataflow with restarts. Assumes nothing.
use Rattle.std.specs.Prelude.{◌≡◌, ℕ, zero, suc, ◌+◌, ◌<◌, Bool, true, false, cond, List, [], ◌∷◌, length, is_some, Some, None, Option, ◌==◌, slice_index}
use Rattle.std.specs.Bool.{beq}
use Rattle.std.specs.Option.{option_map}
use Rattle.std.specs.List.{slice_get}
use Rattle.words.specs.declared.kinds.Clock.{Clock}
use Rattle.words.specs.declared.kinds.Clock.TheVariants.{Base, On}
use Rattle.words.specs.declared.kinds.Literal.{Literal}
use Rattle.words.specs.declared.kinds.Operand.{Operand}
use Rattle.words.specs.declared.kinds.Operand.TheVariants.{Take, Literal as Constant}
use Rattle.opset.specs.Meaning.{Meaning}
use Rattle.table.specs.Syntax.{Equation, operate, sample, merge, choose, delay, call, Node, Table, node_at, variable_count}
use Rattle.rules.specs.Clocks.{clock_of, call_clock}
use Rattle.schedule.specs.Reads.{equation_at}
use Rattle.admission.specs.Keeps.{equation_count}

-- an instant: each variable's value, or that it is absent
abbrev pub Env : Type 0 → Type 0
Env V = ℕ → Option V

-- an instant after the other, from 0
abbrev pub Streams : Type 0 → Type 0
Streams V = ℕ → Env V

-- the row of each instant, or that it is idle
abbrev pub Rows : Type 0 → Type 0
Rows V = ℕ → Option (List V)

-- what a node means: which streams meet it under rows over the instants below n
abbrev pub NodeMeaning : Type 0 → Type 1
NodeMeaning V = Rows V → ℕ → Streams V → Type 0

-- absent unless the test holds
abbrev pub only_if : {X : Type 0} → Bool → Option X → Option X
only_if true o = o
only_if false o = None

-- an input is the row's value, absent where the row is idle
abbrev pub entry : {V : Type 0} → Option (List V) → Env V
entry None x = None
entry (Some vs) x = slice_get vs x

-- what vs was at the latest instant before i where xs is present, else `first`
abbrev pub held : {V : Type 0} → Option V → (ℕ → Option V) → (ℕ → Option V) → ℕ → Option V
held first xs vs zero = first
held first xs vs (suc i) = cond (is_some (xs i)) (vs i) (held first xs vs i)

-- how many of the instants before i are among rs
abbrev pub count_before : (ℕ → Bool) → ℕ → ℕ
count_before rs zero = 0
count_before rs (suc i) = cond (rs i) (suc (count_before rs i)) (count_before rs i)

-- the rows where the count is k, idle elsewhere
abbrev pub masked : {V : Type 0} → (ℕ → ℕ) → ℕ → Rows V → Rows V
masked count k rows i = only_if (count i == k) (rows i)

-- x is, where it is present, what f says
abbrev pub Is : {V : Type 0} → ℕ → Streams V → ℕ → (ℕ → Option V) → Type 0
Is {V} n H x f = (i : ℕ) (v : V) → i < n → H i x ≡ Some v → f i ≡ Some v

-- a row with one value more in front, absent where either is
abbrev pub paired : {V : Type 0} → Option V → Option (List V) → Option (List V)
paired None vs = None
paired (Some v) None = None
paired (Some v) (Some vs) = Some (v ∷ vs)

module _ {V : Type 0} (m : Meaning V) where
  -- present, with that sense
  abbrev pub sensed : Option V → Bool → Bool
  sensed None sense = false
  sensed (Some v) sense = beq (m.truth v) sense

  -- a clock holds at an instant: the base where the node's row is not idle
  abbrev pub holds : Bool → Env V → Clock → Bool
  holds busy E Base = busy
  holds busy E (On s sense) = sensed (E s) sense

  -- a literal's value: it has one, by the rule of types
  abbrev pub literal_of : Literal → Option V
  literal_of l = m.literal l.ty l.payload

  -- an operand: a variable's value, absent where that is, or a literal's
  abbrev pub value_of : Env V → Operand → Option V
  value_of E (Take x) = E x
  value_of E (Constant l) = literal_of l

  -- all of a call's operands, absent where one is
  abbrev pub values_of : Env V → List Operand → Option (List V)
  values_of E [] = Some []
  values_of E (a ∷ l) = paired (value_of E a) (values_of E l)

  -- there may be no second operand; one may be absent
  abbrev pub second_of : Env V → Option Operand → Option (Option V)
  second_of E None = Some None
  second_of E (Some b) = option_map Some (value_of E b)

  -- an operator's result, absent where an operand is
  abbrev pub applied : ℕ → Option V → Option (Option V) → Option V
  applied op None q = None
  applied op (Some p) None = None
  applied op (Some p) (Some q) = Some (m.apply op p q)

  -- the first if the selector is true, else the second
  abbrev pub selected : Option V → Option V → Option V → Option V
  selected None p q = None
  selected (Some u) p q = cond (m.truth u) p q

  -- a restart variable is present and true
  abbrev pub restarted : Option ℕ → Env V → Bool
  restarted None E = false
  restarted (Some r) E = sensed (E r) true

  -- how many of the instants so far, this one too, restart
  abbrev pub restarts : Option ℕ → Streams V → ℕ → ℕ
  restarts r H i = count_before (λ j. restarted r (H j)) (suc i)

  -- what a call hands on: its operands where its clock holds
  abbrev pub handed : Bool → Env V → Clock → List Operand → Option (List V)
  handed busy E c ops = only_if (holds busy E c) (values_of E ops)

module _ {V : Type 0} (m : Meaning V) (T : Table) (R : ℕ → NodeMeaning V) where
  -- what an equation of node N says of streams; R is what the called nodes mean
  abbrev pub Says : Node → Rows V → ℕ → Streams V → Equation → Type 0
  Says N rows n H (operate op a b x) = Is n H x (λ i. applied m op (value_of m (H i) a) (second_of m (H i) b))
  Says N rows n H (sample a x) = Is n H x (λ i. value_of m (H i) a)
  Says N rows n H (merge s a b x) = Is n H x (λ i. selected m (H i s) (value_of m (H i) a) (value_of m (H i) b))
  Says N rows n H (choose s a b x) = Is n H x (λ i. selected m (H i s) (value_of m (H i) a) (value_of m (H i) b))
  Says N rows n H (delay l a x) = Is n H x (held (literal_of m l) (λ j. H j x) (λ j. value_of m (H j) a))
  Says N rows n H (call g r ops gs) =
      (k : ℕ) → (S : Streams V) ×
      R g (masked (restarts m r H) k (λ i. handed m (is_some (rows i)) (H i) (call_clock N gs) ops)) n S ×
      ((i p : ℕ) → i < n → restarts m r H i ≡ k → p < length gs → H i (slice_index gs p) ≡ S i ((node_at T g).inputs + p))

  -- streams H meet node N under rows over the instants below n
  pub record MeetsNode (N : Node) (rows : Rows V) (n : ℕ) (H : Streams V) : Type 0 where
    pub inputs : (i x : ℕ) → i < n → x < N.inputs → H i x ≡ entry (rows i) x
    -- a variable is present where its clock holds, and only there
    pub clocks : (i x : ℕ) → i < n → x < variable_count N → is_some (H i x) ≡ holds m (is_some (rows i)) (H i) (clock_of N x)
    pub equations : (e : ℕ) → e < equation_count N → Says N rows n H (equation_at N e)

-- what the nodes below f mean: nothing meets a call of another
abbrev pub MeetsBelow : {V : Type 0} → Meaning V → Table → ℕ → ℕ → NodeMeaning V
MeetsBelow m T zero g = λ rows n H. ⊥
MeetsBelow m T (suc f) g = cond (g == f) (MeetsNode m T (MeetsBelow m T f) (node_at T f)) (MeetsBelow m T f g)

-- node k of a table, which calls only earlier nodes
abbrev pub Meets : {V : Type 0} → Meaning V → Table → ℕ → NodeMeaning V
Meets m T k = MeetsNode m T (MeetsBelow m T k) (node_at T k)
