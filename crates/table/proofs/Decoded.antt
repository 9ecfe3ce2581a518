-- The table that is read back from the words that spell it.
use Rattle.std.proofs.Common.{◌≡◌, ℕ, zero, suc, ◌<◌, ◌≤◌, List, [], ◌∷◌, ◌++◌, map, length, take, Some, None, Option, refl, ap, ◌∙◌, suc-le-suc, arith, le-ltb, lt-ltb}
use Rattle.std.proofs.lemmas.List.{append_assoc, length-take-le}
use Rattle.std.specs.List.{AllByRecursion}
use Rattle.words.specs.declared.kinds.Clock.{Clock}
use Rattle.words.specs.declared.kinds.Clock.TheVariants.{Base, On}
use Rattle.words.specs.declared.kinds.Operand.{Operand}
use Rattle.words.specs.declared.kinds.Operand.TheVariants.{Take, Literal as Constant}
use Rattle.words.specs.declared.kinds.Variable.{Variable}
use Rattle.words.specs.declared.kinds.Word.{Word}
use Rattle.words.specs.declared.kinds.Word.TheVariants.{Head, Node as Open, Variable as Declare, Call, Operand as With, Give, End}
use Rattle.words.specs.Format.{encoded, ClockFits, RestartFits, WordFits}
use Rattle.words.proofs.Format.{words_stand}
use Rattle.table.specs.Syntax.{Equation, operate, sample, merge, choose, delay, call, Node, Table, node_at, variable_count}
use Rattle.table.specs.Spelling.{equation_words, equations_words, ports_of, node_words, nodes_words, spelled, ClockKeeps, VariableKeeps, OperandKeeps, RestartKeeps, EquationKeeps, NodeKeeps, KeepsLimits}
use Rattle.table.specs.Decoding.{also, said, operands_in, gives_in, equations_in, variables_in, nodes_in, table_of}

-- Every word of a table within the limits fits its fields.
all_append : {X : Type 0} (P : X → Type 0) (xs ys : List X) → AllByRecursion P xs → AllByRecursion P ys → AllByRecursion P (xs ++ ys)
all_append P [] ys a b = b
all_append P (x ∷ xs) ys a b = (a.0, all_append P xs ys a.1 b)

all_map : {X Y : Type 0} (P : X → Type 0) (Q : Y → Type 0) (f : X → Y) → ((x : X) → P x → Q (f x)) → (xs : List X) → AllByRecursion P xs → AllByRecursion Q (map f xs)
all_map P Q f h [] a = tt
all_map P Q f h (x ∷ xs) a = (h x a.0, all_map P Q f h xs a.1)

clock_fits : (v : ℕ) (c : Clock) → v ≤ 64 → ClockKeeps v c → ClockFits c
clock_fits v Base h k = tt
clock_fits v (On x sense) h k = omega arith

pub restart_fits_lem : (v : ℕ) (r : Option ℕ) → v ≤ 64 → RestartKeeps v r → RestartFits r
restart_fits_lem v None h k = tt
restart_fits_lem v (Some r) h k = omega arith

pub operand_fits : (v : ℕ) → v ≤ 64 → (a : Operand) → OperandKeeps v a → WordFits (With a)
operand_fits v h (Take x) k = omega arith
operand_fits v h (Constant l) k = (k.ty, k.payload)

pub give_fits : (v : ℕ) → v ≤ 64 → (x : ℕ) → x < v → WordFits (Give x)
give_fits v h x k = omega arith

pub variable_fits : (v : ℕ) → v ≤ 64 → (x : Variable) → VariableKeeps v x → WordFits (Declare x)
variable_fits v h x k = (k.ty, clock_fits v x.clock h k.clock)

module _ (P : Table) (v : ℕ) (h : v ≤ 64) (l : length P ≤ 32) where
  operate_fits : (op : ℕ) (a : Operand) (b : Option Operand) (x : ℕ) → EquationKeeps P v (operate op a b x) → AllByRecursion WordFits (equation_words (operate op a b x))
  operate_fits op a None x k = ((omega (arith, k.1), omega (arith, k.2)), (operand_fits v h a k.0, tt))
  operate_fits op a (Some b) x k = ((omega (arith, k.1.1), omega (arith, k.2)), (operand_fits v h a k.0, (operand_fits v h b k.1.2, tt)))

  equation_fits : (e : Equation) → EquationKeeps P v e → AllByRecursion WordFits (equation_words e)
  equation_fits (operate op a b x) k = operate_fits op a b x k
  equation_fits (sample a x) k = (omega (arith, k.1), (operand_fits v h a k.0, tt))
  equation_fits (merge s a b x) k = ((omega (arith, k.0), omega (arith, k.3)), (operand_fits v h a k.1, (operand_fits v h b k.2, tt)))
  equation_fits (choose s a b x) k = ((omega (arith, k.0), omega (arith, k.3)), (operand_fits v h a k.1, (operand_fits v h b k.2, tt)))
  equation_fits (delay l a x) k = (omega (arith, k.2), ((k.0.ty, k.0.payload), (operand_fits v h a k.1, tt)))
  equation_fits (call g r ops gs) k = (
    (omega (arith, k.0), restart_fits_lem v r h k.1),
    all_append WordFits (map With ops) (map Give gs) (all_map (OperandKeeps v) WordFits With (operand_fits v h) ops k.2) (all_map (λ x. x < v) WordFits Give (give_fits v h) gs k.3),
  )

  equations_fit : (es : List Equation) → AllByRecursion (EquationKeeps P v) es → AllByRecursion WordFits (equations_words es)
  equations_fit [] k = tt
  equations_fit (e ∷ es) k = all_append WordFits (equation_words e) (equations_words es) (equation_fits e k.0) (equations_fit es k.1)

node_fits : (P : Table) (N : Node) → length P ≤ 32 → NodeKeeps P N → AllByRecursion WordFits (node_words N)
node_fits P N l k =
    let v = variable_count N in
    let h = k.count.1 in (
      (omega (arith, k.inputs.1), omega (arith, k.outputs.1), omega (arith, h)),
      all_append WordFits (map Declare N.variables) _ (all_map (VariableKeeps v) WordFits Declare (variable_fits v h) N.variables k.variables)
          (all_append WordFits (equations_words N.equations) (End ∷ []) (equations_fit P v h l N.equations k.equations) (tt, tt)),
    )

nodes_fit : (T : Table) → ((k : ℕ) → k < length T → AllByRecursion WordFits (node_words (node_at T k))) → AllByRecursion WordFits (nodes_words T)
nodes_fit [] f = tt
nodes_fit (N ∷ T) f = all_append WordFits (node_words N) (nodes_words T) (f zero (omega arith)) (nodes_fit T (λ k h. f (suc k) (suc-le-suc h)))

said_back : (xs : List Word) → AllByRecursion WordFits xs → said (map encoded xs) ≡ xs
said_back [] a = refl
said_back (x ∷ xs) a = ap (λ o. also o (said (map encoded xs))) (words_stand.reads x a.0) ∙ ap (λ l. x ∷ l) (said_back xs a.1)

-- What stands behind an equation is no part of it.
pub record Stops (ys : List Word) : Type 0 where
  pub operands : operands_in ys ≡ []
  pub gives : gives_in ys ≡ []
  pub variables : variables_in ys ≡ []

head_stops : (e : Equation) (ys : List Word) → Stops (equation_words e ++ ys)
head_stops (operate op a b x) ys = record { operands = refl; gives = refl; variables = refl }
head_stops (sample a x) ys = record { operands = refl; gives = refl; variables = refl }
head_stops (merge s a b x) ys = record { operands = refl; gives = refl; variables = refl }
head_stops (choose s a b x) ys = record { operands = refl; gives = refl; variables = refl }
head_stops (delay l a x) ys = record { operands = refl; gives = refl; variables = refl }
head_stops (call g r ops gs) ys = record { operands = refl; gives = refl; variables = refl }

-- the equations of a node, and its end, before other words
abbrev tail : List Equation → List Word → List Word
tail [] rest = End ∷ rest
tail (e ∷ es) rest = equation_words e ++ tail es rest

tail_is : (es : List Equation) (rest : List Word) → (equations_words es ++ (End ∷ [])) ++ rest ≡ tail es rest
tail_is [] rest = refl
tail_is (e ∷ es) rest =
    ap (λ l. l ++ rest) (append_assoc (equation_words e) (equations_words es) (End ∷ []))
    ∙ append_assoc (equation_words e) (equations_words es ++ (End ∷ [])) rest
    ∙ ap (λ l. equation_words e ++ l) (tail_is es rest)

tail_stops : (es : List Equation) (rest : List Word) → Stops (tail es rest)
tail_stops [] rest = record { operands = refl; gives = refl; variables = refl }
tail_stops (e ∷ es) rest = head_stops e (tail es rest)

-- An equation is read back.
gives_end : (gs : List ℕ) (ys : List Word) → operands_in ys ≡ [] → operands_in (map Give gs ++ ys) ≡ []
gives_end [] ys e = e
gives_end (x ∷ gs) ys e = refl

operands_back : (ops : List Operand) (gs : List ℕ) (ys : List Word) → operands_in ys ≡ [] → operands_in (map With ops ++ (map Give gs ++ ys)) ≡ ops
operands_back [] gs ys e = gives_end gs ys e
operands_back (a ∷ ops) gs ys e = ap (λ l. a ∷ l) (operands_back ops gs ys e)

only_gives_back : (gs : List ℕ) (ys : List Word) → gives_in ys ≡ [] → gives_in (map Give gs ++ ys) ≡ gs
only_gives_back [] ys e = e
only_gives_back (x ∷ gs) ys e = ap (λ l. x ∷ l) (only_gives_back gs ys e)

gives_back : (ops : List Operand) (gs : List ℕ) (ys : List Word) → gives_in ys ≡ [] → gives_in (map With ops ++ (map Give gs ++ ys)) ≡ gs
gives_back [] gs ys e = only_gives_back gs ys e
gives_back (a ∷ ops) gs ys e = gives_back ops gs ys e

only_gives_skipped : (gs : List ℕ) (ys : List Word) → equations_in (map Give gs ++ ys) ≡ equations_in ys
only_gives_skipped [] ys = refl
only_gives_skipped (x ∷ gs) ys = only_gives_skipped gs ys

parts_skipped : (ops : List Operand) (gs : List ℕ) (ys : List Word) → equations_in (map With ops ++ (map Give gs ++ ys)) ≡ equations_in ys
parts_skipped [] gs ys = only_gives_skipped gs ys
parts_skipped (a ∷ ops) gs ys = parts_skipped ops gs ys

equation_back : (P : Table) (v : ℕ) (e : Equation) (ys : List Word) → EquationKeeps P v e → Stops ys → equations_in (equation_words e ++ ys) ≡ e ∷ equations_in ys
equation_back P v (operate op a None x) ys k s = let t = lt-ltb op 128 k.1 in rw t
equation_back P v (operate op a (Some b) x) ys k s = let t = le-ltb op 128 k.1.0 in rw t
equation_back P v (sample a x) ys k s = refl
equation_back P v (merge z a b x) ys k s = refl
equation_back P v (choose z a b x) ys k s = refl
equation_back P v (delay l a x) ys k s = refl
equation_back P v (call g r ops gs) ys k s =
    ap (λ l. equations_in (Call g r ∷ l)) (append_assoc (map With ops) (map Give gs) ys)
    ∙ ap (λ l. call g r l (gives_in (map With ops ++ (map Give gs ++ ys))) ∷ equations_in (map With ops ++ (map Give gs ++ ys))) (operands_back ops gs ys s.operands)
    ∙ ap (λ l. call g r ops l ∷ equations_in (map With ops ++ (map Give gs ++ ys))) (gives_back ops gs ys s.gives)
    ∙ ap (λ l. call g r ops gs ∷ l) (parts_skipped ops gs ys)

equations_back : (P : Table) (v : ℕ) (es : List Equation) (rest : List Word) → AllByRecursion (EquationKeeps P v) es → equations_in (tail es rest) ≡ es
equations_back P v [] rest k = refl
equations_back P v (e ∷ es) rest k =
    equation_back P v e (tail es rest) k.0 (tail_stops es rest) ∙ ap (λ l. e ∷ l) (equations_back P v es rest k.1)

-- A node is read back.
variables_back : (vs : List Variable) (ys : List Word) → variables_in ys ≡ [] → variables_in (map Declare vs ++ ys) ≡ vs
variables_back [] ys e = e
variables_back (x ∷ vs) ys e = ap (λ l. x ∷ l) (variables_back vs ys e)

declared_skipped : (vs : List Variable) (ys : List Word) → equations_in (map Declare vs ++ ys) ≡ equations_in ys
declared_skipped [] ys = refl
declared_skipped (x ∷ vs) ys = declared_skipped vs ys

no_nodes_declared : (vs : List Variable) (ys : List Word) → nodes_in (map Declare vs ++ ys) ≡ nodes_in ys
no_nodes_declared [] ys = refl
no_nodes_declared (x ∷ vs) ys = no_nodes_declared vs ys

no_nodes_given : (gs : List ℕ) (ys : List Word) → nodes_in (map Give gs ++ ys) ≡ nodes_in ys
no_nodes_given [] ys = refl
no_nodes_given (x ∷ gs) ys = no_nodes_given gs ys

no_nodes_taken : (ops : List Operand) (ys : List Word) → nodes_in (map With ops ++ ys) ≡ nodes_in ys
no_nodes_taken [] ys = refl
no_nodes_taken (a ∷ ops) ys = no_nodes_taken ops ys

no_nodes : (e : Equation) (ys : List Word) → nodes_in (equation_words e ++ ys) ≡ nodes_in ys
no_nodes (operate op a None x) ys = refl
no_nodes (operate op a (Some b) x) ys = refl
no_nodes (sample a x) ys = refl
no_nodes (merge z a b x) ys = refl
no_nodes (choose z a b x) ys = refl
no_nodes (delay l a x) ys = refl
no_nodes (call g r ops gs) ys =
    ap nodes_in (append_assoc (map With ops) (map Give gs) ys) ∙ no_nodes_taken ops (map Give gs ++ ys) ∙ no_nodes_given gs ys

no_nodes_in_tail : (es : List Equation) (rest : List Word) → nodes_in (tail es rest) ≡ nodes_in rest
no_nodes_in_tail [] rest = refl
no_nodes_in_tail (e ∷ es) rest = no_nodes e (tail es rest) ∙ no_nodes_in_tail es rest

node_back : (P : Table) (N : Node) (rest : List Word) → NodeKeeps P N → nodes_in (node_words N ++ rest) ≡ N ∷ nodes_in rest
node_back P N rest k =
    let vs = N.variables in
    let es = N.equations in
    let ys = tail es rest in
    let made : List Variable → List Equation → Table → Table = λ v e T. record { inputs = N.inputs; outputs = N.outputs; variables = v; equations = e } ∷ T in
    ap (λ l. nodes_in (Open (ports_of N) ∷ l)) (append_assoc (map Declare vs) (equations_words es ++ (End ∷ [])) rest ∙ ap (λ l. map Declare vs ++ l) (tail_is es rest))
    ∙ ap (λ l. made l (equations_in (map Declare vs ++ ys)) (nodes_in (map Declare vs ++ ys))) (variables_back vs ys (tail_stops es rest).variables)
    ∙ ap (λ l. made vs l (nodes_in (map Declare vs ++ ys))) (declared_skipped vs ys ∙ equations_back P (variable_count N) es rest k.equations)
    ∙ ap (λ T. made vs es T) (no_nodes_declared vs ys ∙ no_nodes_in_tail es rest)

nodes_back : (T : Table) → ((k : ℕ) → k < length T → (P : Table) × NodeKeeps P (node_at T k)) → nodes_in (nodes_words T) ≡ T
nodes_back [] f = refl
nodes_back (N ∷ T) f =
    let h = f zero (omega arith) in
    node_back h.0 N (nodes_words T) h.1 ∙ ap (λ l. N ∷ l) (nodes_back T (λ k l. f (suc k) (suc-le-suc l)))

pub decoded_back : (own : ℕ) (T : Table) → own < 256 → KeepsLimits T → table_of (spelled own T) ≡ T
decoded_back own T h k =
    ap nodes_in (said_back (Head own ∷ nodes_words T) (h, nodes_fit T (λ j l. node_fits (take j T) (node_at T j) (omega (arith, length-take-le j T (omega arith), k.count.1)) (k.nodes j l))))
    ∙ nodes_back T (λ j l. (take j T, k.nodes j l))
