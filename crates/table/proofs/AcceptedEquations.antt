-- Words that the reader accepts: equations.
use Rattle.std.proofs.Common.{◌≡◌, ℕ, suc, ◌+◌, ◌-◌, ◌^◌, ◌<◌, ◌≤◌, true, List, [], ◌∷◌, ◌++◌, map, length, get_or, Some, None, Option, sym, refl, ◌∙◌, arith}
use Rattle.std.specs.List.{AllByRecursion}
use Rattle.std.proofs.lemmas.List.{length-set, get_or-set_same, get_or-set_other, get_or_append_left, length_push, append_assoc}
use Rattle.std.proofs.lemmas.Bool.{ne_eqb, le-leb, lt-ltb, le-ltb}
use Rattle.words.specs.declared.kinds.Literal.{Literal}
use Rattle.words.specs.declared.kinds.Operand.{Operand}
use Rattle.words.specs.declared.kinds.Operand.TheVariants.{Literal as Constant}
use Rattle.words.specs.declared.kinds.Word.{Word}
use Rattle.words.specs.declared.kinds.Word.TheVariants.{Operate, Sample, Merge, Choose, Delay, Call, Operand as With, Give}
use Rattle.words.specs.Bits.{field, kind_of}
use Rattle.words.specs.Format.{encoded, restart_bits, restart_in, WordFits, RestartFits}
use Rattle.words.proofs.Format.{words_stand}
use Rattle.reader.specs.declared.outline.Outline.{Outline}
use Rattle.reader.specs.declared.scan.Expect.{Expect}
use Rattle.reader.specs.declared.scan.Expect.TheVariants as due
use Rattle.reader.specs.Scanning.{begun, behind, numbers_fit, restart_fits}
use Rattle.table.specs.Syntax.{Equation, operate, sample, merge, choose, delay, call, Node, Table, node_at, none}
use Rattle.table.specs.Spelling.{equation_words, equations_words, OperandKeeps, LiteralKeeps, RestartKeeps, SecondKeeps, EquationKeeps}
use Rattle.table.proofs.AcceptedParts.{state, Good, spare, operands_read_lem, gives_read}

-- What acceptance depends on in the outline: the nodes so far, their counts, and that no later node has equations.
pub record Counted (N : Node) (i o : ℕ) : Type 0 where
  pub inputs : i ≡ N.inputs
  pub outputs : o ≡ N.outputs
  pub some : (0 < N.inputs) × (0 < N.outputs)

pub record Known (T : Table) (o : Outline) : Type 0 where
  pub nodes : o.nodes ≡ length T
  pub counts : (g : ℕ) → g < length T → Counted (node_at T g) (get_or o.inputs g 0) (get_or o.outputs g 0)
  pub fresh : (k : ℕ) → length T ≤ k → get_or o.equations k 0 ≡ 0
  pub sizes : (length o.inputs ≡ 32) × (length o.outputs ≡ 32) × (length o.equations ≡ 32)

-- and the last of the nodes has room for n more equations
pub record Room (T : Table) (n : ℕ) (o : Outline) : Type 0 where
  pub known : Known T o
  pub left : get_or o.equations (o.nodes - 1) 0 + n ≤ 64

-- behind an equation's head at a place
abbrev headed : Outline → ℕ → Outline
headed o at = (begun (state due.Equation 0 o) at due.Equation).outline

headed_room : (T : Table) (n : ℕ) (o : Outline) (at : ℕ) → 0 < length T → length T ≤ 32 → Room T (suc n) o → Room T n (headed o at)
headed_room T n o at l m r =
    let i = o.nodes - 1 in
    let e = o.equations in
    let c = get_or e i 0 in
    let k = r.known in
    let s = get_or-set_same e i (c + 1) 0 (omega (arith, k.nodes, k.sizes.2)) in
    record {
      known = record {
        nodes = k.nodes;
        counts = k.counts;
        fresh = λ j h. get_or-set_other e i j (c + 1) 0 (λ q. omega (arith, k.nodes)) ∙ k.fresh j h;
        sizes = (k.sizes.0, k.sizes.1, simp length-set k.sizes.2);
      };
      left = rw s (omega (arith, r.left));
    }

-- The restart in a call's head, and the literal of a delay.
restart_fits_lem : (v : ℕ) (r : Option ℕ) → v ≤ 64 → RestartKeeps v r → RestartFits r
restart_fits_lem v None l k = tt
restart_fits_lem v (Some r) l k = omega arith

restart_small : (r : Option ℕ) → RestartFits r → restart_bits r < 2 ^ 16
restart_small None f = omega arith
restart_small (Some r) f = omega arith

restart_passes : (e : Expect) (v : ℕ) (o : Outline) (r : Option ℕ) → RestartKeeps v r → restart_fits (state e v o) r ≡ true
restart_passes e v o None k = refl
restart_passes e v o (Some r) k = lt-ltb r v k

literal_read : (own v : ℕ) (o : Outline) (c : Literal) (ws : List Word) → LiteralKeeps c
    → Good own (due.Operands 1 0) v o ws → Good own due.Literal v o (With (Constant c) ∷ ws)
literal_read own v o c ws k go at =
    let d : kind_of (encoded (With (Constant c))) ≡ 10 = omega arith in
    rw d (go (at + 1))

-- Equations of the node N of v variables, behind the earlier nodes.
module _ (own : ℕ) (earlier : Table) (N : Node) (m : length earlier < 32) (v : ℕ) (l : v ≤ 64) where
  -- one equation, where there is room for n more behind it
  module _ (n : ℕ) (o : Outline) (r : Room (earlier ++ N ∷ []) (suc n) o) where
    -- a head whose kind, whose numbers and what stands behind it are known
    head_read : (x : Word) (e : Expect) (ws : List Word) → WordFits x → 3 ≤ kind_of (encoded x) → kind_of (encoded x) ≤ 8
        → numbers_fit (state due.Equation v o) (encoded x) ≡ true → behind (state due.Equation v o) (encoded x) ≡ e
        → ((q : Outline) → Room (earlier ++ N ∷ []) n q → Good own e v q ws) → Good own due.Equation v o (x ∷ ws)
    head_read x e ws f a b t d go at =
        let w : ℕ = encoded x in
        let z = spare x f in
        let i = ne_eqb (kind_of w) 12 (λ q. omega arith) in
        let h = le-leb 3 (kind_of w) a in
        let j = le-leb (kind_of w) 8 b in
        let c = lt-ltb (get_or o.equations (o.nodes - 1) 0) 64 (omega (arith, r.left)) in
        let p = length_push earlier N in
        rw (z, i, h, j, c, t, d) (go (headed o at) (headed_room (earlier ++ N ∷ []) n o at (omega arith) (omega arith) r) (at + 1))

    module _ (ws : List Word) (go : (q : Outline) → Room (earlier ++ N ∷ []) n q → Good own due.Equation v q ws) where
      -- a head, and behind it only operands
      plain_read : (x : Word) (ops : List Operand) → WordFits x → 3 ≤ kind_of (encoded x) → kind_of (encoded x) ≤ 8
          → numbers_fit (state due.Equation v o) (encoded x) ≡ true → behind (state due.Equation v o) (encoded x) ≡ due.Operands (length ops) 0
          → 0 < length ops → AllByRecursion (OperandKeeps v) ops → Good own due.Equation v o (x ∷ (map With ops ++ ws))
      plain_read x ops f a b t d c k =
          head_read x (due.Operands (length ops) 0) (map With ops ++ ws) f a b t d (λ q s. operands_read_lem own 0 v q ops ws l c k (go q s))

      operate_read : (op : ℕ) (a : Operand) (b : Option Operand) (x : ℕ) → OperandKeeps v a → SecondKeeps v op b → x < v
          → Good own due.Equation v o (equation_words (operate op a b x) ++ ws)
      operate_read op a None x ka kb kx =
          let w : ℕ = encoded (Operate op x) in
          let d : kind_of w ≡ 3 = omega arith in
          let f : field w 20 8 ≡ op = omega arith in
          let g : field w 0 6 ≡ x = omega arith in
          plain_read (Operate op x) (a ∷ []) (omega arith, omega arith) (omega arith) (omega arith)
          (rw (d, g) (lt-ltb x v kx)) (rw (d, f, lt-ltb op 128 kb)) (omega arith) (ka, tt)
      operate_read op a (Some b) x ka kb kx =
          let w : ℕ = encoded (Operate op x) in
          let h : op < 256 = kb.1 in
          let d : kind_of w ≡ 3 = omega arith in
          let f : field w 20 8 ≡ op = omega arith in
          let g : field w 0 6 ≡ x = omega arith in
          plain_read (Operate op x) (a ∷ b ∷ []) (omega arith, omega arith) (omega arith) (omega arith)
          (rw (d, g) (lt-ltb x v kx)) (rw (d, f, le-ltb op 128 kb.0)) (omega arith) (ka, (kb.2, tt))

      call_read : (g : ℕ) (c : Option ℕ) (ops : List Operand) (xs : List ℕ) → EquationKeeps earlier v (call g c ops xs)
          → Good own due.Equation v o (equation_words (call g c ops xs) ++ ws)
      call_read g c ops xs k =
          let w : ℕ = encoded (Call g c) in
          let h : g < length earlier = k.0 in
          let p = length_push earlier N in
          let i = restart_fits_lem v c l k.1 in
          let b = restart_small c i in
          let d : kind_of w ≡ 8 = omega arith in
          let f : field w 20 8 ≡ g = omega arith in
          let t : WordFits (Call g c) = (omega arith, i) in
          let e = rw d at (words_stand.reads (Call g c) t) in
          let u : restart_in w ≡ c = cc in
          let y = rw (get_or_append_left earlier (N ∷ []) none g h) at (r.known.counts g (omega arith)) in
          let ins : get_or o.inputs g 0 ≡ length ops = y.inputs ∙ sym k.4 in
          let outs : get_or o.outputs g 0 ≡ length xs = y.outputs ∙ sym k.5 in
          let a : 0 < length ops = omega (arith, k.4, y.some.0) in
          let z : 0 < length xs = omega (arith, k.5, y.some.1) in
          head_read (Call g c) (due.Operands (length ops) (length xs)) ((map With ops ++ map Give xs) ++ ws) t (omega arith) (omega arith)
          (rw (d, f, u, lt-ltb g (o.nodes - 1) (omega (arith, r.known.nodes))) (restart_passes due.Equation v o c k.1))
          (rw (d, f, ins, outs))
          (λ q s. rw append_assoc (operands_read_lem own (length xs) v q ops (map Give xs ++ ws) l a k.2
          (rw (lt-ltb 0 (length xs) z) (gives_read own v q xs ws l z k.3 (go q s)))))

      equation_read : (e : Equation) → EquationKeeps earlier v e → Good own due.Equation v o (equation_words e ++ ws)
      equation_read (operate op a b x) k = operate_read op a b x k.0 k.1 k.2
      equation_read (sample a x) k =
          let w : ℕ = encoded (Sample x) in
          let h : x < v = k.1 in
          let d : kind_of w ≡ 4 = omega arith in
          let f : field w 0 6 ≡ x = omega arith in
          plain_read (Sample x) (a ∷ []) (omega arith) (omega arith) (omega arith)
          (rw (d, f) (lt-ltb x v h)) (rw d) (omega arith) (k.0, tt)
      equation_read (merge s a b x) k =
          let w : ℕ = encoded (Merge s x) in
          let h : x < v = k.3 in
          let i : s < v = k.0 in
          let d : kind_of w ≡ 5 = omega arith in
          let f : field w 8 6 ≡ s = omega arith in
          let g : field w 0 6 ≡ x = omega arith in
          plain_read (Merge s x) (a ∷ b ∷ []) (omega arith, omega arith) (omega arith) (omega arith)
          (rw (d, f, g, lt-ltb s v i) (lt-ltb x v h)) (rw d) (omega arith) (k.1, (k.2, tt))
      equation_read (choose s a b x) k =
          let w : ℕ = encoded (Choose s x) in
          let h : x < v = k.3 in
          let i : s < v = k.0 in
          let d : kind_of w ≡ 6 = omega arith in
          let f : field w 8 6 ≡ s = omega arith in
          let g : field w 0 6 ≡ x = omega arith in
          plain_read (Choose s x) (a ∷ b ∷ []) (omega arith, omega arith) (omega arith) (omega arith)
          (rw (d, f, g, lt-ltb s v i) (lt-ltb x v h)) (rw d) (omega arith) (k.1, (k.2, tt))
      equation_read (delay c a x) k =
          let w : ℕ = encoded (Delay x) in
          let h : x < v = k.2 in
          let d : kind_of w ≡ 7 = omega arith in
          let f : field w 0 6 ≡ x = omega arith in
          head_read (Delay x) due.Literal (With (Constant c) ∷ With a ∷ ws) (omega arith) (omega arith) (omega arith)
          (rw (d, f) (lt-ltb x v h)) (rw d)
          (λ q s. literal_read own v q c (With a ∷ ws) k.0 (operands_read_lem own 0 v q (a ∷ []) ws l (omega arith) (k.1, tt) (go q s)))
      equation_read (call g c ops xs) k = call_read g c ops xs k

  pub equations_read_lem : (o : Outline) (es : List Equation) (ws : List Word) → Room (earlier ++ N ∷ []) (length es) o → AllByRecursion (EquationKeeps earlier v) es
      → ((q : Outline) → Room (earlier ++ N ∷ []) 0 q → Good own due.Equation v q ws) → Good own due.Equation v o (equations_words es ++ ws)
  equations_read_lem o [] ws r k go = go o r
  equations_read_lem o (e ∷ es) ws r k go =
      rw append_assoc (equation_read (length es) o r (equations_words es ++ ws) (λ q s. equations_read_lem q es ws s k.1 go) e k.0)
