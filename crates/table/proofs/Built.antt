-- An equation put together from its head, its operands and its gives.
use Rattle.std.proofs.Common.{◌≡◌, ℕ, ◌<◌, ◌≤◌, Bool, true, false, cond, ltb, List, [], ◌∷◌, ◌++◌, map, length, Some, None, sym, refl, arith, ltb-false, ltb-true}
use Rattle.std.proofs.lemmas.List.{append-nil}
use Rattle.std.specs.List.{AllByRecursion}
use Rattle.words.specs.declared.kinds.Operand.{Operand}
use Rattle.words.specs.declared.kinds.Operand.TheVariants.{Take, Literal as Constant}
use Rattle.words.specs.declared.kinds.Word.{Word}
use Rattle.words.specs.declared.kinds.Word.TheVariants.{Head, Node as Open, Variable as Declare, Operate, Sample, Merge, Choose, Delay, Call, Operand as With, Give, End}
use Rattle.table.specs.Syntax.{Equation, operate, sample, merge, choose, delay, call, Table, node_at}
use Rattle.table.specs.Spelling.{equation_words, OperandKeeps, RestartKeeps, EquationKeeps}

-- how many operands and gives stand behind a head
abbrev pub arity : Table → Word → ℕ
arity P (Head set) = 0
arity P (Open p) = 0
arity P (Declare v) = 0
arity P (Operate op x) = cond (ltb op 128) 1 2
arity P (Sample x) = 1
arity P (Merge s x) = 2
arity P (Choose s x) = 2
arity P (Delay x) = 2
arity P (Call g r) = (node_at P g).inputs
arity P (With a) = 0
arity P (Give x) = 0
arity P End = 0

abbrev pub give_count : Table → Word → ℕ
give_count P (Head set) = 0
give_count P (Open p) = 0
give_count P (Declare v) = 0
give_count P (Operate op x) = 0
give_count P (Sample x) = 0
give_count P (Merge s x) = 0
give_count P (Choose s x) = 0
give_count P (Delay x) = 0
give_count P (Call g r) = (node_at P g).outputs
give_count P (With a) = 0
give_count P (Give x) = 0
give_count P End = 0

-- a head whose numbers keep the limits, and no other word
abbrev pub HeadKeeps : Table → ℕ → Word → Type 0
HeadKeeps P v (Head set) = ⊥
HeadKeeps P v (Open p) = ⊥
HeadKeeps P v (Declare y) = ⊥
HeadKeeps P v (Operate op x) = (op < 256) × (x < v)
HeadKeeps P v (Sample x) = x < v
HeadKeeps P v (Merge s x) = (s < v) × (x < v)
HeadKeeps P v (Choose s x) = (s < v) × (x < v)
HeadKeeps P v (Delay x) = x < v
HeadKeeps P v (Call g r) = (g < length P) × RestartKeeps v r
HeadKeeps P v (With a) = ⊥
HeadKeeps P v (Give x) = ⊥
HeadKeeps P v End = ⊥

-- a literal stands first behind a DELAY
abbrev pub LiteralFirst : List Operand → Type 0
LiteralFirst [] = ⊥
LiteralFirst (Take x ∷ l) = ⊥
LiteralFirst (Constant c ∷ l) = Unit {0}

abbrev pub DelayStarts : Word → List Operand → Type 0
DelayStarts (Head set) l = Unit {0}
DelayStarts (Open p) l = Unit {0}
DelayStarts (Declare v) l = Unit {0}
DelayStarts (Operate op x) l = Unit {0}
DelayStarts (Sample x) l = Unit {0}
DelayStarts (Merge s x) l = Unit {0}
DelayStarts (Choose s x) l = Unit {0}
DelayStarts (Delay x) l = LiteralFirst l
DelayStarts (Call g r) l = Unit {0}
DelayStarts (With a) l = Unit {0}
DelayStarts (Give x) l = Unit {0}
DelayStarts End l = Unit {0}

pub record Complete (P : Table) (v : ℕ) (h : Word) (ops : List Operand) (gs : List ℕ) : Type 0 where
  pub head : HeadKeeps P v h
  pub operands : AllByRecursion (OperandKeeps v) ops
  pub gives : AllByRecursion (λ x. x < v) gs
  pub operand_count : length ops ≡ arity P h
  pub give_count : length gs ≡ give_count P h
  pub literal : DelayStarts h ops

-- The equation, with its words.
pub record Built (P : Table) (v : ℕ) (h : Word) (ops : List Operand) (gs : List ℕ) : Type 0 where
  pub equation : Equation
  pub words : equation_words equation ≡ h ∷ (map With ops ++ map Give gs)
  pub keeps : EquationKeeps P v equation

nothing : (gs : List ℕ) → length gs ≡ 0 → (ws : List Word) → ws ≡ ws ++ map Give gs
nothing [] e ws = sym (append-nil ws)
nothing (x ∷ gs) e ws = absurd (omega arith)

operate_one : (P : Table) (v op x : ℕ) (ops : List Operand) (gs : List ℕ) → op < 128 → x < v → AllByRecursion (OperandKeeps v) ops
    → length ops ≡ 1 → length gs ≡ 0 → Built P v (Operate op x) ops gs
operate_one P v op x [] gs o d k e f = absurd (omega arith)
operate_one P v op x (a ∷ []) gs o d k e f = record {
  equation = operate op a None x;
  words = nothing gs f (Operate op x ∷ With a ∷ []);
  keeps = (k.0, o, d);
}
operate_one P v op x (a ∷ b ∷ l) gs o d k e f = absurd (omega arith)

operate_two : (P : Table) (v op x : ℕ) (ops : List Operand) (gs : List ℕ) → 128 ≤ op → op < 256 → x < v → AllByRecursion (OperandKeeps v) ops
    → length ops ≡ 2 → length gs ≡ 0 → Built P v (Operate op x) ops gs
operate_two P v op x [] gs o m d k e f = absurd (omega arith)
operate_two P v op x (a ∷ []) gs o m d k e f = absurd (omega arith)
operate_two P v op x (a ∷ b ∷ []) gs o m d k e f = record {
  equation = operate op a (Some b) x;
  words = nothing gs f (Operate op x ∷ With a ∷ With b ∷ []);
  keeps = (k.0, (o, m, k.1.0), d);
}
operate_two P v op x (a ∷ b ∷ c ∷ l) gs o m d k e f = absurd (omega arith)

operate_by : (P : Table) (v op x : ℕ) (ops : List Operand) (gs : List ℕ) (one : Bool) → ltb op 128 ≡ one → op < 256 → x < v → AllByRecursion (OperandKeeps v) ops
    → length ops ≡ cond one 1 2 → length gs ≡ 0 → Built P v (Operate op x) ops gs
operate_by P v op x ops gs true t m d k e f = operate_one P v op x ops gs (ltb-true op 128 t) d k e f
operate_by P v op x ops gs false t m d k e f = operate_two P v op x ops gs (ltb-false op 128 t) m d k e f

sample_built : (P : Table) (v x : ℕ) (ops : List Operand) (gs : List ℕ) → x < v → AllByRecursion (OperandKeeps v) ops
    → length ops ≡ 1 → length gs ≡ 0 → Built P v (Sample x) ops gs
sample_built P v x [] gs d k e f = absurd (omega arith)
sample_built P v x (a ∷ []) gs d k e f = record {
  equation = sample a x;
  words = nothing gs f (Sample x ∷ With a ∷ []);
  keeps = (k.0, d);
}
sample_built P v x (a ∷ b ∷ l) gs d k e f = absurd (omega arith)

merge_built : (P : Table) (v s x : ℕ) (ops : List Operand) (gs : List ℕ) → s < v → x < v → AllByRecursion (OperandKeeps v) ops
    → length ops ≡ 2 → length gs ≡ 0 → Built P v (Merge s x) ops gs
merge_built P v s x [] gs t d k e f = absurd (omega arith)
merge_built P v s x (a ∷ []) gs t d k e f = absurd (omega arith)
merge_built P v s x (a ∷ b ∷ []) gs t d k e f = record {
  equation = merge s a b x;
  words = nothing gs f (Merge s x ∷ With a ∷ With b ∷ []);
  keeps = (t, k.0, k.1.0, d);
}
merge_built P v s x (a ∷ b ∷ c ∷ l) gs t d k e f = absurd (omega arith)

choose_built : (P : Table) (v s x : ℕ) (ops : List Operand) (gs : List ℕ) → s < v → x < v → AllByRecursion (OperandKeeps v) ops
    → length ops ≡ 2 → length gs ≡ 0 → Built P v (Choose s x) ops gs
choose_built P v s x [] gs t d k e f = absurd (omega arith)
choose_built P v s x (a ∷ []) gs t d k e f = absurd (omega arith)
choose_built P v s x (a ∷ b ∷ []) gs t d k e f = record {
  equation = choose s a b x;
  words = nothing gs f (Choose s x ∷ With a ∷ With b ∷ []);
  keeps = (t, k.0, k.1.0, d);
}
choose_built P v s x (a ∷ b ∷ c ∷ l) gs t d k e f = absurd (omega arith)

delay_built : (P : Table) (v x : ℕ) (ops : List Operand) (gs : List ℕ) → x < v → AllByRecursion (OperandKeeps v) ops
    → length ops ≡ 2 → length gs ≡ 0 → LiteralFirst ops → Built P v (Delay x) ops gs
delay_built P v x [] gs d k e f i = absurd (omega arith)
delay_built P v x (a ∷ []) gs d k e f i = absurd (omega arith)
delay_built P v x (Take y ∷ b ∷ []) gs d k e f i = absurd i
delay_built P v x (Constant c ∷ b ∷ []) gs d k e f i = record {
  equation = delay c b x;
  words = nothing gs f (Delay x ∷ With (Constant c) ∷ With b ∷ []);
  keeps = (k.0, k.1.0, d);
}
delay_built P v x (a ∷ b ∷ c ∷ l) gs d k e f i = absurd (omega arith)

pub built : (P : Table) (v : ℕ) (h : Word) (ops : List Operand) (gs : List ℕ) → Complete P v h ops gs → Built P v h ops gs
built P v (Head set) ops gs c = absurd c.head
built P v (Open p) ops gs c = absurd c.head
built P v (Declare y) ops gs c = absurd c.head
built P v (Operate op x) ops gs c =
    operate_by P v op x ops gs (ltb op 128) refl c.head.0 c.head.1 c.operands c.operand_count c.give_count
built P v (Sample x) ops gs c = sample_built P v x ops gs c.head c.operands c.operand_count c.give_count
built P v (Merge s x) ops gs c =
    merge_built P v s x ops gs c.head.0 c.head.1 c.operands c.operand_count c.give_count
built P v (Choose s x) ops gs c =
    choose_built P v s x ops gs c.head.0 c.head.1 c.operands c.operand_count c.give_count
built P v (Delay x) ops gs c =
    delay_built P v x ops gs c.head c.operands c.operand_count c.give_count c.literal
built P v (Call g r) ops gs c = record {
  equation = call g r ops gs;
  words = refl;
  keeps = (c.head.0, c.head.1, c.operands, c.gives, c.operand_count, c.give_count);
}
built P v (With a) ops gs c = absurd c.head
built P v (Give x) ops gs c = absurd c.head
built P v End ops gs c = absurd c.head
