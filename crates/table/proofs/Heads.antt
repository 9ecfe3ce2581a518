-- The head of an equation, or a node's end, takes what is known one word on.
use Rattle.std.proofs.Common.{◌≡◌, ℕ, zero, suc, ◌+◌, ◌*◌, ◌<◌, ◌≤◌, Bool, true, false, cond, ◌&&◌, ◌||◌, eqb, ltb, ◌≢◌, List, [], ◌∷◌, ◌++◌, map, length, get_or, set, Some, None, Ok, Option, sym, refl, ap, ◌∙◌, subst, arith, below_more, ltb-true, eq-eqb, leb-true}
use Rattle.std.proofs.lemmas.List.{length-map, length-append, length-set, take_all, get_or-set_same, get_or-set_other}
use Rattle.words.specs.Bits.{field, kind_of, is_kind}
use Rattle.words.specs.Format.{encoded, decoded_as, restart_in, spare_zero}
use Rattle.words.specs.declared.kinds.Word.{Word}
use Rattle.words.specs.declared.kinds.Word.TheVariants.{Variable as Declare, Operate, Sample, Merge, Choose, Delay, Call, End}
use Rattle.reader.specs.declared.outline.Outline.{Outline}
use Rattle.reader.specs.declared.scan.Expect.{Expect}
use Rattle.reader.specs.declared.scan.Expect.TheVariants.{Head as Due-head, Node as Due-node, Variables, Equation as Due-equation, Literal as Due-literal, Operands, Gives}
use Rattle.reader.specs.declared.scan.Scan.{Scan}
use Rattle.reader.specs.Scanning.{current, site_of, tested, expecting, restart_fits, numbers_fit, behind, equations_read, begun, is_head, equation_head, equation_word}
use Rattle.table.specs.Syntax.{Node, Table, node_at}
use Rattle.table.specs.Spelling.{equations_words, spelled, RestartKeeps, head_place}
use Rattle.table.proofs.Built.{arity, give_count, HeadKeeps, DelayStarts}
use Rattle.table.proofs.Tracked.{Finished, Begun, open_words, InNode, After, InEquations, TrackedBy, Tracked}
use Rattle.table.proofs.Growing.{grown, close}
use Rattle.table.proofs.Steps.{passed, and_both, onto, spelled_by, spelled_length}

-- What is due behind a head.
abbrev DueFor : Table → Word → Expect → Type 0
DueFor P h Due-head = ⊥
DueFor P h Due-node = ⊥
DueFor P h (Variables n) = ⊥
DueFor P h Due-equation = ⊥
DueFor P h Due-literal = (x : ℕ) × (h ≡ Delay x)
DueFor P h (Operands m g) = (m ≡ arity P h) × (g ≡ give_count P h) × (1 ≤ m) × DelayStarts h []
DueFor P h (Gives n) = ⊥

-- the tests and the words behind a head, by its kind
abbrev numbers_as : ℕ → Scan → ℕ → Bool
numbers_as k s w =
    cond (eqb k 8) (ltb (field w 20 8) (current s) && restart_fits s (restart_in w))
    (cond (eqb k 5 || eqb k 6) (ltb (field w 8 6) s.variables && ltb (field w 0 6) s.variables)
    (ltb (field w 0 6) s.variables))

abbrev behind_as : ℕ → Scan → ℕ → Expect
behind_as k s w =
    cond (eqb k 3) (Operands (cond (ltb (field w 20 8) 128) 1 2) 0)
    (cond (eqb k 4) (Operands 1 0)
    (cond (eqb k 7) Due-literal
    (cond (eqb k 8) (Operands (get_or s.outline.inputs (field w 20 8) 0) (get_or s.outline.outputs (field w 20 8) 0))
    (Operands 2 0))))

record Headed (P : Table) (s : Scan) (w k : ℕ) : Type 0 where
  head : Word
  decodes : decoded_as k w ≡ Some head
  keeps : HeadKeeps P s.variables head
  due : DueFor P head (behind_as k s w)

-- the earlier nodes, as the scan has them
record Knows (P : Table) (s : Scan) : Type 0 where
  node : current s ≡ length P
  inputs : (g : ℕ) → g < length P → (get_or s.outline.inputs g 0 ≡ (node_at P g).inputs) × (1 ≤ (node_at P g).inputs)
  outputs : (g : ℕ) → g < length P → get_or s.outline.outputs g 0 ≡ (node_at P g).outputs

restart_keeps : (s : Scan) (r : Option ℕ) → restart_fits s r ≡ true → RestartKeeps s.variables r
restart_keeps s None e = tt
restart_keeps s (Some r) e = ltb-true r s.variables e

arity_some : (b : Bool) → 1 ≤ cond b 1 2
arity_some true = omega arith
arity_some false = omega arith

module _ (P : Table) (s : Scan) (w : ℕ) (k : Knows P s) where
  headed_3 : numbers_as 3 s w ≡ true → Headed P s w 3
  headed_3 e = record {
    head = Operate (field w 20 8) (field w 0 6);
    decodes = refl;
    keeps = (omega arith, ltb-true (field w 0 6) s.variables e);
    due = (refl, refl, arity_some (ltb (field w 20 8) 128), tt);
  }

  headed_4 : numbers_as 4 s w ≡ true → Headed P s w 4
  headed_4 e = record {
    head = Sample (field w 0 6);
    decodes = refl;
    keeps = ltb-true (field w 0 6) s.variables e;
    due = (refl, refl, omega arith, tt);
  }

  headed_5 : numbers_as 5 s w ≡ true → Headed P s w 5
  headed_5 e =
      let b = and_both _ _ e in
      record {
        head = Merge (field w 8 6) (field w 0 6);
        decodes = refl;
        keeps = (ltb-true (field w 8 6) s.variables b.0, ltb-true (field w 0 6) s.variables b.1);
        due = (refl, refl, omega arith, tt);
      }

  headed_6 : numbers_as 6 s w ≡ true → Headed P s w 6
  headed_6 e =
      let b = and_both _ _ e in
      record {
        head = Choose (field w 8 6) (field w 0 6);
        decodes = refl;
        keeps = (ltb-true (field w 8 6) s.variables b.0, ltb-true (field w 0 6) s.variables b.1);
        due = (refl, refl, omega arith, tt);
      }

  headed_7 : numbers_as 7 s w ≡ true → Headed P s w 7
  headed_7 e = record {
    head = Delay (field w 0 6);
    decodes = refl;
    keeps = ltb-true (field w 0 6) s.variables e;
    due = (field w 0 6, refl);
  }

  headed_8 : numbers_as 8 s w ≡ true → Headed P s w 8
  headed_8 e =
      let g = field w 20 8 in
      let b = and_both (ltb g (current s)) (restart_fits s (restart_in w)) e in
      let lt : g < length P = omega (arith, ltb-true g (current s) b.0, k.node) in
      record {
        head = Call g (restart_in w);
        decodes = refl;
        keeps = (lt, restart_keeps s (restart_in w) b.1);
        due = ((k.inputs g lt).0, k.outputs g lt, omega (arith, (k.inputs g lt).0, (k.inputs g lt).1), tt);
      }

  -- by the six kinds of heads
  headed_by : (n : ℕ) → 3 ≤ n → n ≤ 8 → numbers_as n s w ≡ true → Headed P s w n
  headed_by zero a b e = absurd (omega arith)
  headed_by (suc zero) a b e = absurd (omega arith)
  headed_by (suc (suc zero)) a b e = absurd (omega arith)
  headed_by (suc (suc (suc zero))) a b e = headed_3 e
  headed_by (suc (suc (suc (suc zero)))) a b e = headed_4 e
  headed_by (suc (suc (suc (suc (suc zero))))) a b e = headed_5 e
  headed_by (suc (suc (suc (suc (suc (suc zero)))))) a b e = headed_6 e
  headed_by (suc (suc (suc (suc (suc (suc (suc zero))))))) a b e = headed_7 e
  headed_by (suc (suc (suc (suc (suc (suc (suc (suc zero)))))))) a b e = headed_8 e
  headed_by (suc (suc (suc (suc (suc (suc (suc (suc (suc n))))))))) a b e = absurd (omega arith)

-- The outline with one more equation counted.
abbrev with_head : Outline → ℕ → ℕ → ℕ → Outline
with_head o k n at = record {
  nodes = o.nodes;
  starts = o.starts;
  inputs = o.inputs;
  outputs = o.outputs;
  equations = set o.equations k (n + 1);
  heads = set o.heads (64 * k + n) at;
}

headed_finished : (P : Table) (o : Outline) (n at : ℕ) → n < 64 → Finished P o → Finished P (with_head o (length P) n at)
headed_finished P o n at h f =
    let K = length P in
    record {
      sized = record {
        starts = f.sized.starts;
        inputs = f.sized.inputs;
        outputs = f.sized.outputs;
        equations = length-set o.equations K (n + 1) ∙ f.sized.equations;
        heads = length-set o.heads (64 * K + n) at ∙ f.sized.heads;
      };
      few = f.few;
      keeps = f.keeps;
      each = λ k l.
          let other : k ≢ K = λ q. omega arith in
          let i = f.each k l in
          record {
            start = i.start;
            inputs = i.inputs;
            outputs = i.outputs;
            equations = get_or-set_other o.equations K k (n + 1) 0 other ∙ i.equations;
            heads = λ e m.
                let room = (f.keeps k l).equation_count in
                let apart : 64 * k + e ≢ 64 * K + n = λ q. omega arith in
                get_or-set_other o.heads (64 * K + n) (64 * k + e) at 0 apart ∙ i.heads e m;
          };
    }

headed_begun : (P : Table) (ins outs v n at : ℕ) (o : Outline) → n < 64 → Begun P ins outs v n o → Begun P ins outs v (n + 1) (with_head o (length P) n at)
headed_begun P ins outs v n at o h b = record {
  finished = headed_finished P o n at h b.finished;
  nodes = b.nodes;
  few = b.few;
  ins_fit = b.ins_fit;
  outs_fit = b.outs_fit;
  fit = b.fit;
  starts = b.starts;
  inputs = b.inputs;
  outputs = b.outputs;
  counted = get_or-set_same o.equations (length P) (n + 1) 0 (omega (arith, b.finished.sized.equations, b.few));
  room = omega arith;
  fresh = λ j l m. let other : j ≢ length P = λ q. omega arith in get_or-set_other o.equations (length P) j (n + 1) 0 other ∙ b.fresh j l m;
}

-- where the next head stands
place_is : (own : ℕ) (P : Table) (N : Node) (ws : List ℕ) → After own P (open_words N) ws → length ws ≡ head_place P N (length N.equations)
place_is own P N ws a =
    let es = N.equations in
    let xs = open_words N in
    let ds = map Declare N.variables in
    ap length a ∙ length-append (spelled own P) (map encoded xs)
    ∙ omega (
      arith,
      spelled_length own P,
      length-map xs encoded,
      length-append ds (equations_words es),
      length-map N.variables Declare,
      ap (λ l. length (equations_words l)) (take_all (length es) es (omega arith)),
    )

headed_node : (own : ℕ) (P : Table) (N : Node) (v : ℕ) (o : Outline) (ws : List ℕ) → After own P (open_words N) ws → length N.equations < 64
    → InNode P N v (length N.equations) o → InNode P N v (length N.equations + 1) (with_head o (length P) (length N.equations) (length ws))
headed_node own P N v o ws a h i =
    let n = length N.equations in
    let K = length P in
    let room : 64 * K + n < length o.heads = omega (arith, i.begun.finished.sized.heads, i.begun.few) in
    record {
      begun = headed_begun P N.inputs N.outputs v n (length ws) o h i.begun;
      variables = i.variables;
      each_variable = i.each_variable;
      each_equation = i.each_equation;
      heads = below_more (λ e. get_or (set o.heads (64 * K + n) (length ws)) (64 * K + e) 0 ≡ head_place P N e) n
          (λ e l. let apart : 64 * K + e ≢ 64 * K + n = λ q. omega arith in
          get_or-set_other o.heads (64 * K + n) (64 * K + e) (length ws) 0 apart ∙ i.heads e l)
          (get_or-set_same o.heads (64 * K + n) (length ws) 0 room ∙ place_is own P N ws a);
    }

-- What is due behind the head, once it is read.
due_tracked : (own : ℕ) (P : Table) (N : Node) (v : ℕ) (o : Outline) (ws : List ℕ) (h : Word) (E : Expect)
    → After own P (open_words N ++ h ∷ []) ws → InNode P N v (length N.equations + 1) o → HeadKeeps P v h → DueFor P h E → TrackedBy E own v o ws
due_tracked own P N v o ws h Due-head a i k d = absurd d
due_tracked own P N v o ws h Due-node a i k d = absurd d
due_tracked own P N v o ws h (Variables n) a i k d = absurd d
due_tracked own P N v o ws h Due-equation a i k d = absurd d
due_tracked own P N v o ws h Due-literal a i k d =
    let F : Word → Type 0 = λ x. HeadKeeps P v x in
    record {
      table = P;
      node = N;
      variable = d.0;
      words = a ∙ ap (λ x. spelled own P ++ map encoded (open_words N ++ x ∷ [])) d.1;
      within = i;
      keeps = subst F d.1 k;
    }
due_tracked own P N v o ws h (Operands m g) a i k d = record {
  so_far = record {
    table = P;
    node = N;
    head = h;
    ops = [];
    gs = [];
    words = a;
    within = i;
    keeps = k;
    each_operand = tt;
    each_give = tt;
    operand_count = omega (arith, d.0);
    give_count = omega (arith, d.1);
    literal = d.3;
  };
  none = refl;
  some = d.2;
}
due_tracked own P N v o ws h (Gives n) a i k d = absurd d

knows : (P : Table) (N : Node) (s : Scan) (n : ℕ) → InNode P N s.variables n s.outline → Knows P s
knows P N s n i =
    let f = i.begun.finished in
    record {
      node = omega (arith, i.begun.nodes);
      inputs = λ g l. ((f.each g l).inputs, (f.keeps g l).inputs.0);
      outputs = λ g l. (f.each g l).outputs;
    }

head_step : (own : ℕ) (s t : Scan) (ws : List ℕ) (w : ℕ) → InEquations own s.variables s.outline ws
    → equation_head s (length ws) w ≡ Ok t → Tracked own t (ws ++ w ∷ [])
head_step own s t ws w i e =
    let P = i.table in
    let N = i.node in
    let n = length N.equations in
    let at = site_of s (length ws) in
    let o = s.outline in
    let next = begun s (length ws) (behind s w) in
    let p = passed (is_head w) (spare_zero w) true (ltb (equations_read s) 64) (numbers_fit s w) at at next t e in
    let b = and_both _ _ p.kind_ok in
    let K = knows P N s n i.within in
    let k = kind_of w in
    let h = headed_by P s w K k (leb-true 3 k b.0) (leb-true k 8 b.1) p.number_ok in
    let sp = spelled_by w k h.head (eq-eqb k k refl) h.decodes p.spare_ok in
    let r : equations_read s ≡ n = ap (λ j. get_or o.equations j 0) K.node ∙ i.within.begun.counted in
    let few : n < 64 = omega (arith, ltb-true (equations_read s) 64 p.count_ok, r) in
    let w-is : with_head o (length P) n (length ws) ≡ next.outline = ap (λ j. with_head o j n (length ws)) (sym K.node) ∙ ap (λ j. with_head o (current s) j (length ws)) (sym r) in
    let q = headed_node own P N s.variables o ws i.words few i.within in
    let a = grown own P (open_words N) (open_words N ++ h.head ∷ []) h.head ws w i.words sp refl in
    let F : Outline → Type 0 = λ u. TrackedBy (behind s w) own s.variables u (ws ++ w ∷ []) in
    onto own next t (ws ++ w ∷ []) p.leads
    (subst F w-is (due_tracked own P N s.variables (with_head o (length P) n (length ws)) (ws ++ w ∷ []) h.head (behind s w) a q h.keeps h.due))

equation_by : (own : ℕ) (s t : Scan) (ws : List ℕ) (w : ℕ) (b : Bool) → is_kind 12 w ≡ b → InEquations own s.variables s.outline ws
    → cond b (tested true (spare_zero w) true true true (site_of s (length ws)) (site_of s (length ws)) (expecting s Due-node)) (equation_head s (length ws) w) ≡ Ok t
    → Tracked own t (ws ++ w ∷ [])
equation_by own s t ws w true k i e =
    let at = site_of s (length ws) in
    let p = passed true (spare_zero w) true true true at at (expecting s Due-node) t e in
    onto own (expecting s Due-node) t (ws ++ w ∷ []) p.leads
    (close own s.variables s.outline ws w i (spelled_by w 12 End k refl p.spare_ok))
equation_by own s t ws w false k i e = head_step own s t ws w i e

pub step_equation : (own : ℕ) (s t : Scan) (ws : List ℕ) (w : ℕ) → InEquations own s.variables s.outline ws
    → equation_word s (length ws) w ≡ Ok t → Tracked own t (ws ++ w ∷ [])
step_equation own s t ws w i e = equation_by own s t ws w (is_kind 12 w) refl i e
