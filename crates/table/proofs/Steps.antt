-- A word that passes its tests takes what is known one word on.
use Rattle.std.proofs.Common.{◌≡◌, ℕ, ◌+◌, ◌-◌, ◌^◌, ◌<◌, ◌≤◌, Bool, true, false, cond, ◌&&◌, eqb, ltb, ◌≢◌, List, [], ◌∷◌, ◌++◌, map, length, get_or, set, replicate, Some, Ok, Err, Result, sym, refl, ap, ◌∙◌, subst, arith, ltb-false, ltb-true, eqb-true, leb-true}
use Rattle.std.proofs.lemmas.List.{append-nil, append_assoc, map_push, length_push, length-map, length-set, length-replicate, get_or-replicate, get_or-set_same, get_or-set_other}
use Rattle.std.specs.List.{AllByRecursion}
use Rattle.words.specs.Bits.{field, kind_of, is_kind}
use Rattle.words.specs.Format.{encoded, decoded_as, clock_in, ports_in, variable_in, literal_in, spare_zero}
use Rattle.words.specs.declared.kinds.Clock.{Clock}
use Rattle.words.specs.declared.kinds.Clock.TheVariants.{Base, On}
use Rattle.words.specs.declared.kinds.Operand.{Operand}
use Rattle.words.specs.declared.kinds.Operand.TheVariants.{Take, Literal as Constant}
use Rattle.words.specs.declared.kinds.Ports.{Ports}
use Rattle.words.specs.declared.kinds.Variable.{Variable}
use Rattle.words.specs.declared.kinds.Word.{Word}
use Rattle.words.specs.declared.kinds.Word.TheVariants.{Head, Node as Open, Variable as Declare, Operate, Sample, Merge, Choose, Delay, Call, Operand as With, Give, End}
use Rattle.words.proofs.Format.{words_stand}
use Rattle.reader.specs.declared.faults.Site.{Site}
use Rattle.reader.specs.declared.outline.Outline.{Outline}
use Rattle.reader.specs.declared.scan.Expect.TheVariants.{Node as Due-node, Variables, Equation as Due-equation, Operands, Gives}
use Rattle.reader.specs.declared.scan.Scan.{Scan}
use Rattle.reader.specs.Scanning.{Fed, start, site_of, tested, expecting, counts_fit, opened, sampler_fits, onward, head_word, node_word, variable_word, literal_word, operand_word, give_word}
use Rattle.table.specs.Syntax.{Node, Table}
use Rattle.table.specs.Spelling.{nodes_words, spelled, ports_of, ClockKeeps, VariableKeeps, LiteralKeeps, OperandKeeps, node_place}
use Rattle.table.proofs.Built.{DelayStarts}
use Rattle.table.proofs.Tracked.{Finished, Begun, open_words, After, begun_words, BetweenNodes, InVariables, InEquations, InEquation, InOperands, InGives, InLiteral, TrackedBy, Tracked}
use Rattle.table.proofs.Growing.{all_push, grown, finish}

-- What a word that is not refused has passed, and where it leads.
pub record Passed (kind spare set count number : Bool) (next t : Scan) : Type 0 where
  pub kind_ok : kind ≡ true
  pub spare_ok : spare ≡ true
  pub set_ok : set ≡ true
  pub count_ok : count ≡ true
  pub number_ok : number ≡ true
  pub leads : next ≡ t

never : {X Y : Type 0} (f : Y) (t : X) → ◌≡◌ {A = Result X Y} (Err f) (Ok t) → ⊥
never f t e = let z : ◌≡◌ {A = ℕ} 0 1 = cc in omega arith

pub passed : (kind spare set count number : Bool) (before here : Site) (next t : Scan)
    → tested kind spare set count number before here next ≡ Ok t → Passed kind spare set count number next t
passed true true true true true before here next t e =
    record { kind_ok = refl; spare_ok = refl; set_ok = refl; count_ok = refl; number_ok = refl; leads = cc }
passed true true true true false before here next t e = absurd (never _ t e)
passed true true true false number before here next t e = absurd (never _ t e)
passed true true false count number before here next t e = absurd (never _ t e)
passed true false set count number before here next t e = absurd (never _ t e)
passed false spare set count number before here next t e = absurd (never _ t e)

pub and_both : (a b : Bool) → a && b ≡ true → (a ≡ true) × (b ≡ true)
and_both true b e = (refl, e)
and_both false b e = absurd (let z : ◌≡◌ {A = ℕ} 0 1 = cc in omega arith)

pub onto : (own : ℕ) (s t : Scan) (ws : List ℕ) → s ≡ t → Tracked own s ws → Tracked own t ws
onto own s t ws e k = let F : Scan → Type 0 = λ r. Tracked own r ws in subst F e k

-- A word whose spare bits are zero is the one that spells what its kind says.
pub spelled_by : (w k : ℕ) (x : Word) → is_kind k w ≡ true → decoded_as k w ≡ Some x → spare_zero w ≡ true → encoded x ≡ w
spelled_by w k x h d z = words_stand.spells w x (ap (λ i. decoded_as i w) (eqb-true (kind_of w) k h) ∙ d) z

-- a LITERAL has no spare bits
literal_spelled : (w : ℕ) → w < 2 ^ 32 → is_kind 10 w ≡ true → encoded (With (Constant (literal_in w))) ≡ w
literal_spelled w h k = let e = eqb-true (kind_of w) 10 k in omega arith

-- HEAD
zeros : (n : ℕ) → length (replicate {A = ℕ} n 0) ≡ n
zeros n = length-replicate {A = ℕ} n 0

nothing_finished : (o : Outline) → o ≡ start.outline → Finished [] o
nothing_finished o e =
    let F : Outline → Type 0 = Finished [] in
    subst F (sym e) (record {
      sized = record {
        starts = zeros 32;
        inputs = zeros 32;
        outputs = zeros 32;
        equations = zeros 32;
        heads = zeros 2048;
      };
      few = omega arith;
      keeps = λ k h. absurd (omega arith);
      each = λ k h. absurd (omega arith);
    })

pub step_head : (own : ℕ) (s t : Scan) (ws : List ℕ) (w : ℕ) → (ws ≡ []) × (s.outline ≡ start.outline)
    → head_word own s (length ws) w ≡ Ok t → Tracked own t (ws ++ w ∷ [])
step_head own s t ws w i e =
    let p = passed (is_kind 0 w) (spare_zero w) (eqb (field w 0 8) own) true true (site_of s (length ws)) (site_of s (length ws)) (expecting s Due-node) t e in
    let sp = spelled_by w 0 (Head (field w 0 8)) p.kind_ok refl p.spare_ok in
    let n = eqb-true (field w 0 8) own p.set_ok in
    onto own (expecting s Due-node) t (ws ++ w ∷ []) p.leads (record {
      table = [];
      words = ap (λ l. l ++ w ∷ []) i.0 ∙ ap (λ x. x ∷ []) (sym sp ∙ ap (λ x. encoded (Head x)) n);
      finished = nothing_finished s.outline i.1;
      nodes = ap (λ o. o.nodes) i.1;
      fresh = λ j h l. ap (λ o. get_or o.equations j 0) i.1 ∙ get_or-replicate 32 j 0 0 l;
    })

-- NODE
pub spelled_length : (own : ℕ) (P : Table) → length (spelled own P) ≡ node_place P
spelled_length own P = length-map (Head own ∷ nodes_words P) encoded ∙ omega arith

opened_finished : (s : Scan) (at : ℕ) (p : Ports) (P : Table) → s.outline.nodes ≡ length P → Finished P s.outline
    → Finished P (opened s at p).outline
opened_finished s at p P n f =
    let o = s.outline in
    record {
      sized = record {
        starts = length-set o.starts o.nodes at ∙ f.sized.starts;
        inputs = length-set o.inputs o.nodes p.inputs ∙ f.sized.inputs;
        outputs = length-set o.outputs o.nodes p.outputs ∙ f.sized.outputs;
        equations = f.sized.equations;
        heads = f.sized.heads;
      };
      few = f.few;
      keeps = f.keeps;
      each = λ k h.
          let ne : k ≢ o.nodes = λ q. omega (arith, n) in
          let k-is = f.each k h in
          record {
            start = get_or-set_other o.starts o.nodes k at 0 ne ∙ k-is.start;
            inputs = get_or-set_other o.inputs o.nodes k p.inputs 0 ne ∙ k-is.inputs;
            outputs = get_or-set_other o.outputs o.nodes k p.outputs 0 ne ∙ k-is.outputs;
            equations = k-is.equations;
            heads = k-is.heads;
          };
    }

pub record CountsKeep (s : Scan) (p : Ports) : Type 0 where
  pub inputs : (1 ≤ p.inputs) × (p.inputs ≤ 16)
  pub outputs : (1 ≤ p.outputs) × (p.outputs ≤ 16)
  pub total : p.inputs + p.outputs + p.locals ≤ 64
  pub few : s.outline.nodes < 32

counts_keep : (s : Scan) (p : Ports) → counts_fit s p ≡ true → CountsKeep s p
counts_keep s p e =
    let a = and_both _ _ e in
    let b = and_both _ _ a.1 in
    let c = and_both _ _ b.1 in
    let d = and_both _ _ c.1 in
    let f = and_both _ _ d.1 in
    record {
      inputs = (ltb-true _ _ a.0, leb-true _ _ b.0);
      outputs = (ltb-true _ _ c.0, leb-true _ _ d.0);
      total = leb-true _ _ f.0;
      few = ltb-true _ _ f.1;
    }

pub step_node : (own : ℕ) (s t : Scan) (ws : List ℕ) (w : ℕ) → BetweenNodes own s.outline ws
    → node_word s (length ws) w ≡ Ok t → Tracked own t (ws ++ w ∷ [])
step_node own s t ws w i e =
    let o = s.outline in
    let ports = ports_in w in
    let p = passed (is_kind 1 w) (spare_zero w) true (counts_fit s ports) true (site_of s (length ws)) (record { node = o.nodes; place = length ws }) (opened s (length ws) ports) t e in
    let P = i.table in
    let n = i.nodes in
    let sp = spelled_by w 1 (Open ports) p.kind_ok refl p.spare_ok in
    let c = counts_keep s ports p.count_ok in
    let z = i.finished.sized in
    let at-is : length ws ≡ node_place P = ap length i.words ∙ spelled_length own P in
    let a : After own P [] ws = i.words ∙ sym (append-nil (spelled own P)) in
    onto own (opened s (length ws) ports) t (ws ++ w ∷ []) p.leads (record {
      table = P;
      ports = ports;
      variables = [];
      words = grown own P [] (Open ports ∷ []) (Open ports) ws w a sp refl;
      begun = record {
        finished = opened_finished s (length ws) ports P n i.finished;
        nodes = ap (λ x. x + 1) n;
        few = omega (arith, n, c.few);
        ins_fit = c.inputs;
        outs_fit = c.outputs;
        fit = (omega arith, c.total);
        starts = ap (λ k. get_or (set o.starts o.nodes (length ws)) k 0) (sym n)
            ∙ get_or-set_same o.starts o.nodes (length ws) 0 (omega (arith, z.starts, c.few)) ∙ at-is;
        inputs = ap (λ k. get_or (set o.inputs o.nodes ports.inputs) k 0) (sym n)
            ∙ get_or-set_same o.inputs o.nodes ports.inputs 0 (omega (arith, z.inputs, c.few));
        outputs = ap (λ k. get_or (set o.outputs o.nodes ports.outputs) k 0) (sym n)
            ∙ get_or-set_same o.outputs o.nodes ports.outputs 0 (omega (arith, z.outputs, c.few));
        counted = i.fresh (length P) (omega arith) (omega (arith, n, c.few));
        room = omega arith;
        fresh = λ j h l. i.fresh j (omega arith) l;
      };
      total = refl;
      count = omega arith;
      some = omega (arith, c.inputs.0);
      each = tt;
    })

-- VARIABLE
clock_keeps : (s : Scan) (c : Clock) → sampler_fits s c ≡ true → ClockKeeps s.variables c
clock_keeps s Base e = tt
clock_keeps s (On x sense) e = ltb-true x s.variables e

abbrev declared : Ports → List Variable → Node
declared p vs = record { inputs = p.inputs; outputs = p.outputs; variables = vs; equations = [] }

declared_ports : (p : Ports) (vs : List Variable) → p.inputs + p.outputs + p.locals ≡ length vs → ports_of (declared p vs) ≡ p
declared_ports p vs e =
    let l : length vs - (p.inputs + p.outputs) ≡ p.locals = omega arith in
    ap (λ n. record { inputs = p.inputs; outputs = p.outputs; locals = n }) l

-- the last variable is read
declared_all : (own v : ℕ) (o : Outline) (ws : List ℕ) (P : Table) (p : Ports) (vs : List Variable)
    → After own P (Open p ∷ map Declare vs) ws → Begun P p.inputs p.outputs v 0 o
    → p.inputs + p.outputs + p.locals ≡ v → length vs ≡ v → AllByRecursion (VariableKeeps v) vs → InEquations own v o ws
declared_all own v o ws P p vs a b t n k = record {
  table = P;
  node = declared p vs;
  words = a ∙ ap (λ q. spelled own P ++ map encoded q)
      (ap (λ l. Open p ∷ l) (sym (append-nil (map Declare vs))) ∙ ap (λ q. Open q ∷ (map Declare vs ++ [])) (sym (declared_ports p vs (t ∙ sym n))));
  within = record {
    begun = b;
    variables = n;
    each_variable = k;
    each_equation = tt;
    heads = λ e h. absurd (omega arith);
  };
}

variable_by : (own more v : ℕ) (o : Outline) (ws : List ℕ) (w : ℕ) (b : Bool) → ltb 1 more ≡ b → InVariables own more v o ws
    → (x : Variable) → encoded (Declare x) ≡ w → VariableKeeps v x → TrackedBy (cond b (Variables (more - 1)) Due-equation) own v o (ws ++ w ∷ [])
variable_by own more v o ws w true t i x e k =
    let m = ltb-true 1 more t in
    record {
      table = i.table;
      ports = i.ports;
      variables = i.variables ++ x ∷ [];
      words = grown own i.table (Open i.ports ∷ map Declare i.variables) (Open i.ports ∷ map Declare (i.variables ++ x ∷ [])) (Declare x) ws w
          i.words e (ap (λ l. Open i.ports ∷ l) (sym (map_push Declare i.variables x)));
      begun = i.begun;
      total = i.total;
      count = omega (arith, length_push i.variables x, i.count);
      some = omega arith;
      each = all_push _ i.variables x i.each k;
    }
variable_by own more v o ws w false t i x e k =
    let m = ltb-false 1 more t in
    let vs = i.variables ++ x ∷ [] in
    let n : length vs ≡ v = omega (arith, length_push i.variables x, i.count, i.some) in
    declared_all own v o (ws ++ w ∷ []) i.table i.ports vs
    (grown own i.table (Open i.ports ∷ map Declare i.variables) (Open i.ports ∷ map Declare vs) (Declare x) ws w
    i.words e (ap (λ l. Open i.ports ∷ l) (sym (map_push Declare i.variables x))))
    i.begun i.total n (all_push _ i.variables x i.each k)

pub step_variable : (own : ℕ) (s t : Scan) (ws : List ℕ) (w more : ℕ) → InVariables own more s.variables s.outline ws
    → variable_word s more (length ws) w ≡ Ok t → Tracked own t (ws ++ w ∷ [])
step_variable own s t ws w more i e =
    let next = cond (ltb 1 more) (Variables (more - 1)) Due-equation in
    let at = site_of s (length ws) in
    let p = passed (is_kind 2 w) (spare_zero w) true true (sampler_fits s (clock_in w)) at at (expecting s next) t e in
    let sp = spelled_by w 2 (Declare (variable_in w)) p.kind_ok refl p.spare_ok in
    let k : VariableKeeps s.variables (variable_in w) = record { ty = omega arith; clock = clock_keeps s (clock_in w) p.number_ok } in
    onto own (expecting s next) t (ws ++ w ∷ []) p.leads
    (variable_by own more s.variables s.outline ws w (ltb 1 more) refl i (variable_in w) sp k)

-- The operands and the gives of an equation
delay_more : (h : Word) (ops : List Operand) (a : Operand) → DelayStarts h ops → DelayStarts h (ops ++ a ∷ [])
delay_more (Head x) ops a d = tt
delay_more (Open x) ops a d = tt
delay_more (Declare x) ops a d = tt
delay_more (Operate op x) ops a d = tt
delay_more (Sample x) ops a d = tt
delay_more (Merge y x) ops a d = tt
delay_more (Choose y x) ops a d = tt
delay_more (Delay x) [] a d = absurd d
delay_more (Delay x) (Take y ∷ ops) a d = absurd d
delay_more (Delay x) (Constant c ∷ ops) a d = tt
delay_more (Call g r) ops a d = tt
delay_more (With b) ops a d = tt
delay_more (Give x) ops a d = tt
delay_more End ops a d = tt

no_gives : (h : Word) (xs : List Word) (gs : List ℕ) → gs ≡ [] → h ∷ (xs ++ map Give gs) ≡ h ∷ xs
no_gives h xs gs e = ap (λ l. h ∷ (xs ++ map Give l)) e ∙ ap (λ l. h ∷ l) (append-nil xs)

operand_words : (N : Node) (h : Word) (ops : List Operand) (gs : List ℕ) (a : Operand) → gs ≡ []
    → begun_words N h ops gs ++ With a ∷ [] ≡ begun_words N h (ops ++ a ∷ []) gs
operand_words N h ops gs a e =
    append_assoc (open_words N) (h ∷ (map With ops ++ map Give gs)) (With a ∷ [])
    ∙ ap (λ l. open_words N ++ (l ++ With a ∷ [])) (no_gives h (map With ops) gs e)
    ∙ ap (λ l. open_words N ++ (h ∷ l)) (sym (map_push With ops a))
    ∙ ap (λ l. open_words N ++ l) (sym (no_gives h (map With (ops ++ a ∷ [])) gs e))

add_operand : (own more gives v : ℕ) (o : Outline) (ws : List ℕ) (w : ℕ) (a : Operand) (i : InOperands own more gives v o ws)
    → encoded (With a) ≡ w → OperandKeeps v a → (t : InEquation own (more - 1) gives v o (ws ++ w ∷ [])) × (t.gs ≡ [])
add_operand own more gives v o ws w a i e k =
    let t = i.so_far in (
      record {
        table = t.table;
        node = t.node;
        head = t.head;
        ops = t.ops ++ a ∷ [];
        gs = t.gs;
        words = grown own t.table (begun_words t.node t.head t.ops t.gs) (begun_words t.node t.head (t.ops ++ a ∷ []) t.gs) (With a) ws w t.words e (operand_words t.node t.head t.ops t.gs a i.none);
        within = t.within;
        keeps = t.keeps;
        each_operand = all_push _ t.ops a t.each_operand k;
        each_give = t.each_give;
        operand_count = omega (arith, length_push t.ops a, t.operand_count, i.some);
        give_count = t.give_count;
        literal = delay_more t.head t.ops a t.literal;
      },
      i.none,
    )

as_counted : (own m m' g g' v : ℕ) (o : Outline) (ws : List ℕ) → m ≡ m' → g ≡ g' → InEquation own m g v o ws → InEquation own m' g' v o ws
as_counted own m m' g g' v o ws e f t =
    let F : ℕ → Type 0 = λ n. InEquation own n g v o ws in
    let G : ℕ → Type 0 = λ n. InEquation own m' n v o ws in
    subst G f (subst F e t)

-- what is due behind the last operand
behind_operands : (own gives v : ℕ) (o : Outline) (ws : List ℕ) (b : Bool) → ltb 0 gives ≡ b → InEquation own 0 gives v o ws
    → TrackedBy (cond b (Gives gives) Due-equation) own v o ws
behind_operands own gives v o ws true e t = record { so_far = t; some = ltb-true 0 gives e }
behind_operands own gives v o ws false e t =
    let z : gives ≡ 0 = omega (arith, ltb-false 0 gives e) in finish own v o ws (as_counted own 0 0 gives 0 v o ws refl z t)

behind_operand : (own more gives v : ℕ) (o : Outline) (ws : List ℕ) (b : Bool) → ltb 1 more ≡ b → 1 ≤ more
    → (t : InEquation own (more - 1) gives v o ws) → t.gs ≡ []
    → TrackedBy (cond b (Operands (more - 1) gives) (cond (ltb 0 gives) (Gives gives) Due-equation)) own v o ws
behind_operand own more gives v o ws true e h t n = record { so_far = t; none = n; some = omega (arith, ltb-true 1 more e) }
behind_operand own more gives v o ws false e h t n =
    let z : more - 1 ≡ 0 = omega (arith, ltb-false 1 more e) in
    behind_operands own gives v o ws (ltb 0 gives) refl (as_counted own (more - 1) 0 gives gives v o ws z refl t)

operand_step : (own more gives : ℕ) (s : Scan) (ws : List ℕ) (w : ℕ) (a : Operand) (i : InOperands own more gives s.variables s.outline ws)
    → encoded (With a) ≡ w → OperandKeeps s.variables a → Tracked own (expecting s (onward more gives)) (ws ++ w ∷ [])
operand_step own more gives s ws w a i e k =
    let r = add_operand own more gives s.variables s.outline ws w a i e k in
    behind_operand own more gives s.variables s.outline (ws ++ w ∷ []) (ltb 1 more) refl i.some r.0 r.1

ok_is : (s t : Scan) → ◌≡◌ {A = Fed} (Ok s) (Ok t) → s ≡ t
ok_is s t e = cc

operand_by : (own more gives : ℕ) (s t : Scan) (ws : List ℕ) (w : ℕ) (b : Bool) → is_kind 10 w ≡ b → w < 2 ^ 32
    → InOperands own more gives s.variables s.outline ws
    → cond b (Ok (expecting s (onward more gives)))
    (tested (is_kind 9 w) (spare_zero w) true true (ltb (field w 0 6) s.variables) (site_of s (length ws)) (site_of s (length ws)) (expecting s (onward more gives))) ≡ Ok t
    → Tracked own t (ws ++ w ∷ [])
operand_by own more gives s t ws w true k h i e =
    let l : LiteralKeeps (literal_in w) = record { ty = omega arith; payload = omega arith } in
    onto own (expecting s (onward more gives)) t (ws ++ w ∷ []) (ok_is _ t e)
    (operand_step own more gives s ws w (Constant (literal_in w)) i (literal_spelled w h k) l)
operand_by own more gives s t ws w false k h i e =
    let at = site_of s (length ws) in
    let p = passed (is_kind 9 w) (spare_zero w) true true (ltb (field w 0 6) s.variables) at at (expecting s (onward more gives)) t e in
    onto own (expecting s (onward more gives)) t (ws ++ w ∷ []) p.leads
    (operand_step own more gives s ws w (Take (field w 0 6)) i
    (spelled_by w 9 (With (Take (field w 0 6))) p.kind_ok refl p.spare_ok) (ltb-true (field w 0 6) s.variables p.number_ok))

pub step_operand : (own : ℕ) (s t : Scan) (ws : List ℕ) (w more gives : ℕ) → w < 2 ^ 32 → InOperands own more gives s.variables s.outline ws
    → operand_word s more gives (length ws) w ≡ Ok t → Tracked own t (ws ++ w ∷ [])
step_operand own s t ws w more gives h i e = operand_by own more gives s t ws w (is_kind 10 w) refl h i e

give_words : (N : Node) (h : Word) (ops : List Operand) (gs : List ℕ) (x : ℕ) → begun_words N h ops gs ++ Give x ∷ [] ≡ begun_words N h ops (gs ++ x ∷ [])
give_words N h ops gs x =
    append_assoc (open_words N) (h ∷ (map With ops ++ map Give gs)) (Give x ∷ [])
    ∙ ap (λ l. open_words N ++ (h ∷ l)) (append_assoc (map With ops) (map Give gs) (Give x ∷ []) ∙ ap (λ l. map With ops ++ l) (sym (map_push Give gs x)))

add_give : (own more v : ℕ) (o : Outline) (ws : List ℕ) (w x : ℕ) → InGives own more v o ws → encoded (Give x) ≡ w → x < v
    → InEquation own 0 (more - 1) v o (ws ++ w ∷ [])
add_give own more v o ws w x i e k =
    let t = i.so_far in
    record {
      table = t.table;
      node = t.node;
      head = t.head;
      ops = t.ops;
      gs = t.gs ++ x ∷ [];
      words = grown own t.table (begun_words t.node t.head t.ops t.gs) (begun_words t.node t.head t.ops (t.gs ++ x ∷ [])) (Give x) ws w t.words e
          (give_words t.node t.head t.ops t.gs x);
      within = t.within;
      keeps = t.keeps;
      each_operand = t.each_operand;
      each_give = all_push _ t.gs x t.each_give k;
      operand_count = t.operand_count;
      give_count = omega (arith, length_push t.gs x, t.give_count, i.some);
      literal = t.literal;
    }

behind_give : (own more v : ℕ) (o : Outline) (ws : List ℕ) (b : Bool) → ltb 1 more ≡ b → 1 ≤ more → InEquation own 0 (more - 1) v o ws
    → TrackedBy (cond b (Gives (more - 1)) Due-equation) own v o ws
behind_give own more v o ws true e h t = record { so_far = t; some = omega (arith, ltb-true 1 more e) }
behind_give own more v o ws false e h t =
    let z : more - 1 ≡ 0 = omega (arith, ltb-false 1 more e) in finish own v o ws (as_counted own 0 0 (more - 1) 0 v o ws refl z t)

pub step_give : (own : ℕ) (s t : Scan) (ws : List ℕ) (w more : ℕ) → InGives own more s.variables s.outline ws
    → give_word s more (length ws) w ≡ Ok t → Tracked own t (ws ++ w ∷ [])
step_give own s t ws w more i e =
    let next = cond (ltb 1 more) (Gives (more - 1)) Due-equation in
    let at = site_of s (length ws) in
    let x = field w 0 6 in
    let p = passed (is_kind 11 w) (spare_zero w) true true (ltb x s.variables) at at (expecting s next) t e in
    let sp = spelled_by w 11 (Give x) p.kind_ok refl p.spare_ok in
    let r = add_give own more s.variables s.outline ws w x i sp (ltb-true x s.variables p.number_ok) in
    onto own (expecting s next) t (ws ++ w ∷ []) p.leads
    (behind_give own more s.variables s.outline (ws ++ w ∷ []) (ltb 1 more) refl i.some r)

-- the literal of a DELAY
pub step_literal : (own : ℕ) (s t : Scan) (ws : List ℕ) (w : ℕ) → w < 2 ^ 32 → InLiteral own s.variables s.outline ws
    → literal_word s (length ws) w ≡ Ok t → Tracked own t (ws ++ w ∷ [])
step_literal own s t ws w h i e =
    let at = site_of s (length ws) in
    let l = literal_in w in
    let x = i.variable in
    let p = passed (is_kind 10 w) true true true true at at (expecting s (Operands 1 0)) t e in
    onto own (expecting s (Operands 1 0)) t (ws ++ w ∷ []) p.leads (record {
      so_far = record {
        table = i.table;
        node = i.node;
        head = Delay x;
        ops = Constant l ∷ [];
        gs = [];
        words = grown own i.table (open_words i.node ++ Delay x ∷ []) (begun_words i.node (Delay x) (Constant l ∷ []) []) (With (Constant l)) ws w i.words
            (literal_spelled w h p.kind_ok) (append_assoc (open_words i.node) (Delay x ∷ []) (With (Constant l) ∷ []));
        within = i.within;
        keeps = i.keeps;
        each_operand = (record { ty = omega arith; payload = omega arith }, tt);
        each_give = tt;
        operand_count = refl;
        give_count = refl;
        literal = tt;
      };
      none = refl;
      some = omega arith;
    })
