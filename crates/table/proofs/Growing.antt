-- One more word, and what it completes.
use Rattle.std.proofs.Common.{◌≡◌, ℕ, ◌+◌, ◌<◌, ◌≤◌, List, [], ◌∷◌, ◌++◌, map, length, take, sym, refl, ap, ◌∙◌, subst, arith, below_more}
use Rattle.std.proofs.lemmas.List.{append-nil, append_assoc, map-append, map_push, length_push, take-append-le, get_or_append_left, get_or_push, take_at}
use Rattle.std.specs.List.{AllByRecursion}
use Rattle.words.specs.declared.kinds.Word.{Word}
use Rattle.words.specs.declared.kinds.Word.TheVariants.{Head, Node as Open, Variable as Declare, End}
use Rattle.words.specs.Format.{encoded}
use Rattle.reader.specs.declared.outline.Outline.{Outline}
use Rattle.table.specs.Syntax.{Equation, Node, Table, none, node_at, variable_count}
use Rattle.table.specs.Spelling.{equation_words, equations_words, ports_of, node_words, nodes_words, spelled, NodeKeeps, node_place, head_place, OutlinesNode}
use Rattle.table.proofs.Built.{built}
use Rattle.table.proofs.Tracked.{Begun, open_words, InNode, After, BetweenNodes, InEquations, InEquation}

pub all_push : {X : Type 0} (P : X → Type 0) (xs : List X) (x : X) → AllByRecursion P xs → P x → AllByRecursion P (xs ++ x ∷ [])
all_push P [] x a p = (p, tt)
all_push P (y ∷ xs) x a p = (a.0, all_push P xs x a.1 p)

-- one more word behind P
pub grown : (own : ℕ) (P : Table) (xs ys : List Word) (y : Word) (ws : List ℕ) (w : ℕ)
    → After own P xs ws → encoded y ≡ w → xs ++ y ∷ [] ≡ ys → After own P ys (ws ++ w ∷ [])
grown own P xs ys y ws w a e f =
    ap (λ l. l ++ w ∷ []) a ∙ append_assoc (spelled own P) (map encoded xs) (w ∷ [])
    ∙ ap (λ l. spelled own P ++ l) (ap (λ v. map encoded xs ++ v ∷ []) (sym e) ∙ sym (map_push encoded xs y) ∙ ap (map encoded) f)

equations_push : (es : List Equation) (e : Equation) → equations_words (es ++ e ∷ []) ≡ equations_words es ++ equation_words e
equations_push [] e = append-nil (equation_words e)
equations_push (d ∷ es) e =
    ap (λ l. equation_words d ++ l) (equations_push es e) ∙ sym (append_assoc (equation_words d) (equations_words es) (equation_words e))

nodes_push : (P : Table) (N : Node) → nodes_words (P ++ N ∷ []) ≡ nodes_words P ++ node_words N
nodes_push [] N = append-nil (node_words N)
nodes_push (M ∷ P) N =
    ap (λ l. node_words M ++ l) (nodes_push P N) ∙ sym (append_assoc (node_words M) (nodes_words P) (node_words N))

abbrev pub with_equation : Node → Equation → Node
with_equation N e = record { inputs = N.inputs; outputs = N.outputs; variables = N.variables; equations = N.equations ++ e ∷ [] }

open_push : (N : Node) (e : Equation) → open_words N ++ equation_words e ≡ open_words (with_equation N e)
open_push N e =
    ap (λ l. Open (ports_of N) ∷ l)
    (append_assoc (map Declare N.variables) (equations_words N.equations) (equation_words e)
    ∙ ap (λ l. map Declare N.variables ++ l) (sym (equations_push N.equations e)))

-- heads stand where they stood
head_stays : (P : Table) (N : Node) (x : Equation) (e : ℕ) → e ≤ length N.equations → head_place P N e ≡ head_place P (with_equation N x) e
head_stays P N x e h =
    ap (λ l. node_place P + 1 + variable_count N + length (equations_words l)) (sym (take-append-le e N.equations (x ∷ []) h))

begun_as : (P : Table) (ins outs v m n : ℕ) (o : Outline) → m ≡ n → Begun P ins outs v m o → Begun P ins outs v n o
begun_as P ins outs v m n o e b = let F : ℕ → Type 0 = λ i. Begun P ins outs v i o in subst F e b

-- An equation is complete.
pub finish : (own v : ℕ) (o : Outline) (ws : List ℕ) → InEquation own 0 0 v o ws → InEquations own v o ws
finish own v o ws t =
    let P = t.table in
    let N = t.node in
    let es = N.equations in
    let b = built P v t.head t.ops t.gs (record {
      head = t.keeps;
      operands = t.each_operand;
      gives = t.each_give;
      operand_count = omega (arith, t.operand_count);
      give_count = omega (arith, t.give_count);
      literal = t.literal;
    }) in
    let x = b.equation in
    let n : length es + 1 ≡ length (es ++ x ∷ []) = sym (length_push es x) in
    record {
      table = P;
      node = with_equation N x;
      words = t.words ∙ ap (λ l. spelled own P ++ map encoded l) (ap (λ l. open_words N ++ l) (sym b.words) ∙ open_push N x);
      within = record {
        begun = begun_as P N.inputs N.outputs v (length es + 1) (length (es ++ x ∷ [])) o n t.within.begun;
        variables = t.within.variables;
        each_variable = t.within.each_variable;
        each_equation = all_push _ es x t.within.each_equation b.keeps;
        heads = λ e h. t.within.heads e (omega (arith, n)) ∙ head_stays P N x e (omega (arith, n));
      };
    }

-- A node is complete.
table_stays : (P : Table) (N : Node) (k : ℕ) → k < length P → (take k (P ++ N ∷ []) ≡ take k P) × (node_at (P ++ N ∷ []) k ≡ node_at P k)
table_stays P N k h = (let l : k ≤ length P = omega arith in take-append-le k P (N ∷ []) l, get_or_append_left P (N ∷ []) none k h)

table_new : (P : Table) (N : Node) → (take (length P) (P ++ N ∷ []) ≡ P) × (node_at (P ++ N ∷ []) (length P) ≡ N)
table_new P N = (take_at P (N ∷ []) (length P) refl, get_or_push P N none (length P) refl)

moved : (F : Table → Node → Type 0) (A B : Table) (M N : Node) → A ≡ B → M ≡ N → F B N → F A M
moved F A B M N e f x =
    let G : Table → Type 0 = λ Z. F Z M in let H : Node → Type 0 = λ Z. F B Z in subst G (sym e) (subst H (sym f) x)

-- what holds of each node of P behind those before it, and of N behind P, holds of each of P and N
each_push : (F : Table → Node → ℕ → Type 0) (P : Table) (N : Node) → ((k : ℕ) → k < length P → F (take k P) (node_at P k) k) → F P N (length P)
    → (k : ℕ) → k < length (P ++ N ∷ []) → F (take k (P ++ N ∷ [])) (node_at (P ++ N ∷ []) k) k
each_push F P N before here k h =
    below_more (λ j. F (take j (P ++ N ∷ [])) (node_at (P ++ N ∷ []) j) j) (length P)
    (λ j l. let s = table_stays P N j l in moved (λ A M. F A M j) _ _ _ _ s.0 s.1 (before j l))
    (let s = table_new P N in moved (λ A M. F A M (length P)) _ _ _ _ s.0 s.1 here)
    k (omega (arith, length_push P N, h))

own_count : (P : Table) (N : Node) (v n : ℕ) (o : Outline) → InNode P N v n o → InNode P N (variable_count N) n o
own_count P N v n o i = let F : ℕ → Type 0 = λ u. InNode P N u n o in subst F (sym i.variables) i

node_keeps : (P : Table) (N : Node) (o : Outline) → InNode P N (variable_count N) (length N.equations) o → NodeKeeps P N
node_keeps P N o i = record {
  inputs = i.begun.ins_fit;
  outputs = i.begun.outs_fit;
  count = i.begun.fit;
  variables = i.each_variable;
  equation_count = i.begun.room;
  equations = i.each_equation;
}

node_outlined : (P : Table) (N : Node) (o : Outline) → InNode P N (variable_count N) (length N.equations) o → OutlinesNode P N (length P) o
node_outlined P N o i = record {
  start = i.begun.starts;
  inputs = i.begun.inputs;
  outputs = i.begun.outputs;
  equations = i.begun.counted;
  heads = i.heads;
}

spelled_push : (own : ℕ) (P : Table) (N : Node) → spelled own P ++ map encoded (open_words N ++ End ∷ []) ≡ spelled own (P ++ N ∷ [])
spelled_push own P N =
    ap (λ l. spelled own P ++ map encoded (Open (ports_of N) ∷ l)) (append_assoc (map Declare N.variables) (equations_words N.equations) (End ∷ []))
    ∙ sym (map-append encoded (Head own ∷ nodes_words P) (node_words N))
    ∙ ap (λ l. map encoded (Head own ∷ l)) (sym (nodes_push P N))

pub close : (own v : ℕ) (o : Outline) (ws : List ℕ) (w : ℕ) → InEquations own v o ws → encoded End ≡ w → BetweenNodes own o (ws ++ w ∷ [])
close own v o ws w t e =
    let P = t.table in
    let N = t.node in
    let i = own_count P N v (length N.equations) o t.within in
    let f = i.begun.finished in
    record {
      table = P ++ N ∷ [];
      words = grown own P (open_words N) (open_words N ++ End ∷ []) End ws w t.words e refl ∙ spelled_push own P N;
      finished = record {
        sized = f.sized;
        few = omega (arith, length_push P N, i.begun.few);
        keeps = each_push (λ A M k. NodeKeeps A M) P N f.keeps (node_keeps P N o i);
        each = each_push (λ A M k. OutlinesNode A M k o) P N f.each (node_outlined P N o i);
      };
      nodes = i.begun.nodes ∙ sym (length_push P N);
      fresh = λ j h l. i.begun.fresh j (omega (arith, length_push P N, h)) l;
    }
