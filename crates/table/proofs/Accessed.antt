-- The parts of a table, as the outline finds them in the words.
use Rattle.std.proofs.Common.{◌≡◌, ℕ, zero, suc, ◌+◌, ◌*◌, ◌<◌, ◌≤◌, List, [], ◌∷◌, map, length, get_or, take, Some, None, Option, sym, refl, ap, ◌∙◌, subst, suc-le-suc, arith, le-ltb, lt-ltb}
use Rattle.std.proofs.lemmas.List.{length-append, length-map, length-take-le, get_or-map, get_or-append-add, get_or_append_left, get_or_past, get_or-take}
use Rattle.std.specs.List.{AllByRecursion}
use Rattle.words.specs.declared.kinds.Clock.TheVariants.{Base}
use Rattle.words.specs.declared.kinds.Literal.{Literal}
use Rattle.words.specs.declared.kinds.Operand.{Operand}
use Rattle.words.specs.declared.kinds.Operand.TheVariants.{Take, Literal as Constant}
use Rattle.words.specs.declared.kinds.Word.{Word}
use Rattle.words.specs.declared.kinds.Word.TheVariants.{Head, Node as Open, Variable as Declare, Operate, Sample, Merge, Choose, Delay, Call, Operand as With, Give, End}
use Rattle.words.specs.Bits.{field, kind_of}
use Rattle.words.specs.Format.{encoded, ports_in, variable_in, operand_in, restart_in, RestartFits}
use Rattle.words.proofs.Format.{words_stand, small_restart}
use Rattle.reader.specs.declared.outline.Outline.{Outline}
use Rattle.table.specs.declared.drawn.Drawn.{Drawn}
use Rattle.table.specs.declared.drawn.Drawn.TheVariants as drawn
use Rattle.table.specs.Syntax.{Equation, operate, sample, merge, choose, delay, call, Table, none, node_at, variable_at, variable_count, equation_at}
use Rattle.table.specs.Spelling.{equation_words, ports_of, nodes_words, VariableKeeps, OperandKeeps, EquationKeeps, NodeKeeps, node_place, head_place}
use Rattle.table.specs.Decoding.{table_of}
use Rattle.table.specs.Access.{Described, operands_at, gives_at, Draws, drawn_as, drawn_at}
use Rattle.table.proofs.Decoded.{operand_fits, variable_fits, restart_fits_lem}
use Rattle.table.proofs.Places.{Parted, parted_word, node_parted, variables_parted, equation_parted, ports_back, variable_back, operand_back, literal_back}

all_at : {X : Type 0} (P : X → Type 0) (xs : List X) (i : ℕ) (d : X) → AllByRecursion P xs → i < length xs → P (get_or xs i d)
all_at P [] i d a h = absurd (omega arith)
all_at P (x ∷ xs) zero d a h = a.0
all_at P (x ∷ xs) (suc i) d a h = all_at P xs i d a.1 (omega arith)

-- past the last node there is none
pub no_node : (ws : List ℕ) (o : Outline) → Described ws o → (k : ℕ) → o.nodes ≤ k → node_at (table_of ws) k ≡ none
no_node ws o d k h = get_or_past (table_of ws) k none (omega (arith, d.spells.outlines.nodes, h))

pub some_node : (T : Table) (k x : ℕ) → x < variable_count (node_at T k) → k < length T
some_node [] k x h = absurd (omega arith)
some_node (N ∷ T) zero x h = omega arith
some_node (N ∷ T) (suc k) x h = suc-le-suc (some_node T k x h)

restart_back : (g : ℕ) (r : Option ℕ) → g < 256 → RestartFits r → (kind_of (encoded (Call g r)) ≡ 8) × (field (encoded (Call g r)) 20 8 ≡ g) × (restart_in (encoded (Call g r)) ≡ r)
restart_back g r h f =
    let w = encoded (Call g r) in
    let b = small_restart r f in
    let k : kind_of w ≡ 8 = omega arith in
    let q = rw k at (words_stand.reads (Call g r) (h, f)) in
    (k, omega arith, cc)

-- The operands and the gives of a call, by their places.
operands_at_lem : (ws : List ℕ) (ops : List Operand) (at : ℕ) → ((i : ℕ) → i < length ops → operand_in (get_or ws (at + i) 0) ≡ get_or ops i (Take 0)) → ops ≡ operands_at ws at (length ops)
operands_at_lem ws [] at f = refl
operands_at_lem ws (a ∷ ops) at f =
    let z : at ≡ at + 0 = omega arith in
    ap (λ x. x ∷ ops) (sym (ap (λ j. operand_in (get_or ws j 0)) z ∙ f zero (omega arith)))
    ∙ ap (λ l. operand_in (get_or ws at 0) ∷ l) (operands_at_lem ws ops (at + 1) (λ i h. let e : at + 1 + i ≡ at + suc i = omega arith in ap (λ j. operand_in (get_or ws j 0)) e ∙ f (suc i) (suc-le-suc h)))

gives_at_lem : (ws gs : List ℕ) (at : ℕ) → ((i : ℕ) → i < length gs → field (get_or ws (at + i) 0) 0 6 ≡ get_or gs i 0) → gs ≡ gives_at ws at (length gs)
gives_at_lem ws [] at f = refl
gives_at_lem ws (x ∷ gs) at f =
    let z : at ≡ at + 0 = omega arith in
    ap (λ y. y ∷ gs) (sym (ap (λ j. field (get_or ws j 0) 0 6) z ∙ f zero (omega arith)))
    ∙ ap (λ l. field (get_or ws at 0) 0 6 ∷ l) (gives_at_lem ws gs (at + 1) (λ i h. let e : at + 1 + i ≡ at + suc i = omega arith in ap (λ j. field (get_or ws j 0) 0 6) e ∙ f (suc i) (suc-le-suc h)))

-- An equation, by the words from its place on.
module _ (ws : List ℕ) (p : ℕ) where
  abbrev Stand : List Word → Type 0
  Stand xs = (i : ℕ) → i < length xs → get_or ws (p + i) 0 ≡ encoded (get_or xs i End)

  at0 : (xs : List Word) → Stand xs → 0 < length xs → get_or ws p 0 ≡ encoded (get_or xs 0 End)
  at0 xs s h = let e : p ≡ p + 0 = omega arith in ap (λ j. get_or ws j 0) e ∙ s 0 h

  -- the head's kind decides
  by_kind : (k w first second : ℕ) → get_or ws p 0 ≡ w → kind_of w ≡ k → get_or ws (p + 1) 0 ≡ first → get_or ws (p + 2) 0 ≡ second → drawn_at ws p ≡ drawn_as k w first second p
  by_kind k w first second a b f g =
      ap (λ x. drawn_as (kind_of x) x (get_or ws (p + 1) 0) (get_or ws (p + 2) 0) p) a
      ∙ ap (λ x. drawn_as x w (get_or ws (p + 1) 0) (get_or ws (p + 2) 0) p) b
      ∙ ap (λ x. drawn_as k w x (get_or ws (p + 2) 0) p) f ∙ ap (λ x. drawn_as k w first x p) g

  module _ (P : Table) (v : ℕ) (h : v ≤ 64) (few : length P ≤ 32) where
    drawn_one : (op x : ℕ) (a : Operand) → EquationKeeps P v (operate op a None x) → Stand (equation_words (operate op a None x)) → drawn_at ws p ≡ drawn.Operate op a None x
    drawn_one op x a k s =
        let w = encoded (Operate op x) in
        let t = lt-ltb op 128 k.1 in
        let f : field w 20 8 ≡ op = omega (arith, k.1, k.2) in
        let g : field w 0 6 ≡ x = omega (arith, k.1, k.2) in
        let b = operand_back a (operand_fits v h a k.0) in
        by_kind 3 w (encoded (With a)) (get_or ws (p + 2) 0) (at0 (equation_words (operate op a None x)) s (omega arith)) (omega (arith, k.1, k.2)) (s 1 (omega arith)) refl ∙ rw (f, t, b, g)

    drawn_two : (op x : ℕ) (a b : Operand) → EquationKeeps P v (operate op a (Some b) x) → Stand (equation_words (operate op a (Some b) x)) → drawn_at ws p ≡ drawn.Operate op a (Some b) x
    drawn_two op x a b k s =
        let w = encoded (Operate op x) in
        let t = le-ltb op 128 k.1.0 in
        let f : field w 20 8 ≡ op = omega (arith, k.1.1, k.2) in
        let g : field w 0 6 ≡ x = omega (arith, k.1.1, k.2) in
        let c = operand_back a (operand_fits v h a k.0) in
        let d = operand_back b (operand_fits v h b k.1.2) in
        by_kind 3 w (encoded (With a)) (encoded (With b)) (at0 (equation_words (operate op a (Some b) x)) s (omega arith)) (omega (arith, k.1.1, k.2)) (s 1 (omega arith)) (s 2 (omega arith)) ∙ rw (f, t, c, d, g)

    drawn_sample : (x : ℕ) (a : Operand) → EquationKeeps P v (sample a x) → Stand (equation_words (sample a x)) → drawn_at ws p ≡ drawn.Sample a x
    drawn_sample x a k s =
        let w = encoded (Sample x) in
        let g : field w 0 6 ≡ x = omega (arith, k.1) in
        let c = operand_back a (operand_fits v h a k.0) in
        by_kind 4 w (encoded (With a)) (get_or ws (p + 2) 0) (at0 (equation_words (sample a x)) s (omega arith)) (omega (arith, k.1)) (s 1 (omega arith)) refl ∙ rw (c, g)

    drawn_merge : (z x : ℕ) (a b : Operand) → EquationKeeps P v (merge z a b x) → Stand (equation_words (merge z a b x)) → drawn_at ws p ≡ drawn.Merge z a b x
    drawn_merge z x a b k s =
        let w = encoded (Merge z x) in
        let f : field w 8 6 ≡ z = omega (arith, k.0, k.3) in
        let g : field w 0 6 ≡ x = omega (arith, k.0, k.3) in
        let c = operand_back a (operand_fits v h a k.1) in
        let d = operand_back b (operand_fits v h b k.2) in
        by_kind 5 w (encoded (With a)) (encoded (With b)) (at0 (equation_words (merge z a b x)) s (omega arith)) (omega (arith, k.0, k.3)) (s 1 (omega arith)) (s 2 (omega arith)) ∙ rw (f, c, d, g)

    drawn_choose : (z x : ℕ) (a b : Operand) → EquationKeeps P v (choose z a b x) → Stand (equation_words (choose z a b x)) → drawn_at ws p ≡ drawn.Choose z a b x
    drawn_choose z x a b k s =
        let w = encoded (Choose z x) in
        let f : field w 8 6 ≡ z = omega (arith, k.0, k.3) in
        let g : field w 0 6 ≡ x = omega (arith, k.0, k.3) in
        let c = operand_back a (operand_fits v h a k.1) in
        let d = operand_back b (operand_fits v h b k.2) in
        by_kind 6 w (encoded (With a)) (encoded (With b)) (at0 (equation_words (choose z a b x)) s (omega arith)) (omega (arith, k.0, k.3)) (s 1 (omega arith)) (s 2 (omega arith)) ∙ rw (f, c, d, g)

    drawn_delay : (l : Literal) (x : ℕ) (a : Operand) → EquationKeeps P v (delay l a x) → Stand (equation_words (delay l a x)) → drawn_at ws p ≡ drawn.Delay l a x
    drawn_delay l x a k s =
        let w = encoded (Delay x) in
        let g : field w 0 6 ≡ x = omega (arith, k.2) in
        let c = literal_back l (k.0.ty, k.0.payload) in
        let d = operand_back a (operand_fits v h a k.1) in
        by_kind 7 w (encoded (With (Constant l))) (encoded (With a)) (at0 (equation_words (delay l a x)) s (omega arith)) (omega (arith, k.2)) (s 1 (omega arith)) (s 2 (omega arith)) ∙ rw (c, d, g)

    drawn_call : (g : ℕ) (r : Option ℕ) (ops : List Operand) (gs : List ℕ) → EquationKeeps P v (call g r ops gs) → Stand (equation_words (call g r ops gs)) → drawn_at ws p ≡ drawn.Call g r (p + 1)
    drawn_call g r ops gs k s =
        let b = restart_back g r (omega (arith, k.0)) (restart_fits_lem v r h k.1) in
        by_kind 8 (encoded (Call g r)) (get_or ws (p + 1) 0) (get_or ws (p + 2) 0) (at0 (equation_words (call g r ops gs)) s (omega arith)) b.0 refl refl ∙ rw (b.1, b.2)

    call_lists : (g : ℕ) (r : Option ℕ) (ops : List Operand) (gs : List ℕ) → EquationKeeps P v (call g r ops gs) → Stand (equation_words (call g r ops gs))
        → (ops ≡ operands_at ws (p + 1) (length ops)) × (gs ≡ gives_at ws (p + 1 + length ops) (length gs))
    call_lists g r ops gs k s =
        let tks = map With ops in
        let bs = map Give gs in
        let la = length-map ops With in
        let lb = length-map gs Give in
        let lt = length-append tks bs in (
          operands_at_lem ws ops (p + 1) (λ i m.
              let e : p + 1 + i ≡ p + suc i = omega arith in
              let a = get_or ops i (Take 0) in
              ap operand_in (ap (λ j. get_or ws j 0) e ∙ s (suc i) (omega (arith, la, lt, m))
              ∙ ap encoded (get_or_append_left tks bs End i (omega (arith, la, m)) ∙ get_or-map With ops i (Take 0) End m))
              ∙ operand_back a (operand_fits v h a (all_at (OperandKeeps v) ops i (Take 0) k.2 m))),
          gives_at_lem ws gs (p + 1 + length ops) (λ i m.
              let e : p + 1 + length ops + i ≡ p + suc (length tks + i) = omega (arith, la) in
              let x = get_or gs i 0 in
              let small : x < v = all_at (λ y. y < v) gs i 0 k.3 m in
              ap (λ w. field w 0 6) (ap (λ j. get_or ws j 0) e ∙ s (suc (length tks + i)) (omega (arith, lb, lt, m))
              ∙ ap encoded (get_or-append-add tks bs i End ∙ get_or-map Give gs i 0 End m))
              ∙ omega (arith, small)),
        )

    call_draws : (T : Table) (n : ℕ) (g : ℕ) (r : Option ℕ) (ops : List Operand) (gs : List ℕ) → P ≡ take n T → n ≤ length T
        → EquationKeeps P v (call g r ops gs) → Stand (equation_words (call g r ops gs)) → Draws ws T n (drawn.Call g r (p + 1)) (call g r ops gs)
    call_draws T n g r ops gs e m k s =
        let ls = call_lists g r ops gs k s in
        let lt : g < n = omega (arith, k.0, ap length e, length-take-le n T m) in
        let N-is : node_at P g ≡ node_at T g = ap (λ Q. node_at Q g) e ∙ get_or-take n T g none lt in
        let i-is = k.4 ∙ ap (λ N. N.inputs) N-is in
        let o_is = k.5 ∙ ap (λ N. N.outputs) N-is in (
          lt,
          ap (λ l. call g r l gs) (ls.0 ∙ ap (operands_at ws (p + 1)) i-is)
              ∙ ap (λ l. call g r (operands_at ws (p + 1) (node_at T g).inputs) l) (ls.1 ∙ ap (λ q. gives_at ws (p + 1 + q) (length gs)) i-is ∙ ap (gives_at ws (p + 1 + (node_at T g).inputs)) o_is),
        )

    operate_draws : (op x : ℕ) (a : Operand) (b : Option Operand) → EquationKeeps P v (operate op a b x) → Stand (equation_words (operate op a b x)) → drawn_at ws p ≡ drawn.Operate op a b x
    operate_draws op x a None k s = drawn_one op x a k s
    operate_draws op x a (Some b) k s = drawn_two op x a b k s

    module _ (T : Table) (n : ℕ) (e : P ≡ take n T) (m : n ≤ length T) where
      as_drawn : (D D' : Drawn) (E : Equation) → D ≡ D' → Draws ws T n D' E → Draws ws T n D E
      as_drawn D D' E q x = let F : Drawn → Type 0 = λ D. Draws ws T n D E in subst F (sym q) x

      draws : (E : Equation) → EquationKeeps P v E → Stand (equation_words E) → Draws ws T n (drawn_at ws p) E
      draws (operate op a b x) k s = as_drawn _ _ _ (operate_draws op x a b k s) refl
      draws (sample a x) k s = as_drawn _ _ _ (drawn_sample x a k s) refl
      draws (merge z a b x) k s = as_drawn _ _ _ (drawn_merge z x a b k s) refl
      draws (choose z a b x) k s = as_drawn _ _ _ (drawn_choose z x a b k s) refl
      draws (delay c a x) k s = as_drawn _ _ _ (drawn_delay c x a k s) refl
      draws (call g r ops gs) k s = as_drawn _ _ _ (drawn_call g r ops gs k s) (call_draws T n g r ops gs e m k s)

module _ (ws : List ℕ) (o : Outline) (d : Described ws o) (k : ℕ) (h : k < length (table_of ws)) where
  node_keeps : NodeKeeps (take k (table_of ws)) (node_at (table_of ws) k)
  node_keeps = d.spells.keeps.nodes k h

  word_is : (part : List Word) (n i : ℕ) → Parted (Head d.own ∷ nodes_words (table_of ws)) part n → i < length part → get_or ws (n + i) 0 ≡ encoded (get_or part i End)
  word_is part n i t l = ap (λ x. get_or x (n + i) 0) d.spells.words ∙ parted_word _ part n i t l

  pub ports_stand : ports_in (get_or ws (get_or o.starts k 0) 0) ≡ ports_of (node_at (table_of ws) k)
  ports_stand =
      let p = ports_of (node_at (table_of ws) k) in
      let K = node_keeps in
      let n = node_place (take k (table_of ws)) in
      let at : get_or o.starts k 0 ≡ n + 0 = omega (arith, (d.spells.outlines.each k h).start) in
      let w = ap (λ x. get_or ws x 0) at ∙ word_is (Open p ∷ []) n 0 (node_parted d.own (table_of ws) k h) (omega arith) in
      ap ports_in w ∙ ports_back p (omega (arith, K.inputs.1), omega (arith, K.outputs.1), omega (arith, K.count.1))

  pub ports_count : (ports_of (node_at (table_of ws) k)).inputs + (ports_of (node_at (table_of ws) k)).outputs + (ports_of (node_at (table_of ws) k)).locals
      ≡ variable_count (node_at (table_of ws) k)
  ports_count = omega (arith, node_keeps.count.0)

  pub variable_stands : (x : ℕ) → x < variable_count (node_at (table_of ws) k) → variable_in (get_or ws (get_or o.starts k 0 + 1 + x) 0) ≡ variable_at (node_at (table_of ws) k) x
  variable_stands x l =
      let N = node_at (table_of ws) k in
      let K = node_keeps in
      let n = node_place (take k (table_of ws)) + 1 in
      let vs = N.variables in
      let v = variable_at N x in
      let at : get_or o.starts k 0 + 1 + x ≡ n + x = omega (arith, (d.spells.outlines.each k h).start) in
      let w = ap (λ y. get_or ws y 0) at ∙ word_is (map Declare vs) n x (variables_parted d.own (table_of ws) k h) (omega (arith, length-map vs Declare, l)) in
      let g = get_or-map Declare vs x (record { ty = 0; clock = Base }) End l in
      ap variable_in (w ∙ ap encoded g) ∙ variable_back v (variable_fits (variable_count N) K.count.1 v (all_at (VariableKeeps (variable_count N)) vs x _ K.variables l))

  pub equation_stands : (e : ℕ) → e < length (node_at (table_of ws) k).equations
      → Draws ws (table_of ws) k (drawn_at ws (get_or o.heads (64 * k + e) 0)) (equation_at (node_at (table_of ws) k) e)
  equation_stands e l =
      let T = table_of ws in
      let N = node_at T k in
      let K = node_keeps in
      let E = equation_at N e in
      let p = head_place (take k T) N e in
      let t = equation_parted d.own T k h e l in
      let at = (d.spells.outlines.each k h).heads e l in
      let few : length (take k T) ≤ 32 = omega (arith, length-take-le k T (omega arith), d.spells.keeps.count.1) in
      let F : ℕ → Type 0 = λ q. Draws ws T k (drawn_at ws q) E in
      subst F (sym at) (draws ws p (take k T) (variable_count N) K.count.1 few T k refl (omega arith) E
      (all_at (EquationKeeps (take k T) (variable_count N)) N.equations e _ K.equations l) (λ i m. word_is (equation_words E) p i t m))
